-- One block more of a read, and none left.
use Rattle.std.proofs.Common.{◌≡◌, ℕ, ◌+◌, ◌<◌, ◌≤◌, Bool, List, length, get_or, take, drop, Ok, sym, ap, ◌∙◌}
use Rattle.std.proofs.lemmas.List.{at_drop_more, at_drop_all, take_more}
use Rattle.blocklist.specs.Faults.{judged}
use Rattle.decision.specs.declared.view.View.{View}
use Rattle.decision.specs.Reads.{bind, block_tests, blocks_tested}

-- the tests of a read from its block i on
pub tested_more : (x : View) (rw : Bool) (ns : List ℕ) (i : ℕ) → i < length ns
    → blocks_tested x rw (take i ns) (drop i ns)
    ≡ bind (judged (block_tests x rw (take i ns) (get_or ns i 0)) (tt {0})) (λ _. blocks_tested x rw (take (i + 1) ns) (drop (i + 1) ns))
unfolding blocks_tested
tested_more x rw ns i h =
    at_drop_more (blocks_tested x rw (take i ns)) ns i 0 h
    ∙ ap (λ before. bind (judged (block_tests x rw (take i ns) (get_or ns i 0)) (tt {0})) (λ _. blocks_tested x rw before (drop (i + 1) ns))) (sym (take_more ns i 0 h))

pub tested_all : (x : View) (rw : Bool) (ns before : List ℕ) (i : ℕ) → length ns ≤ i → blocks_tested x rw before (drop i ns) ≡ Ok (tt {0})
unfolding blocks_tested
tested_all x rw ns before i h = at_drop_all (blocks_tested x rw before) ns i h

pub ruleset steps = (tested_more, tested_all)
