use Rattle.blocklist.proofs.Parting.{lists_with_data, writes_parted, names_all}
use Rattle.blocklist.proofs.block_list.lists_are_exact.Goals as goal

pub returns : goal.returns
returns c = record { writes = lists_with_data; parted = writes_parted; named = names_all }
