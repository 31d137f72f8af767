-- Which commands a hopper hears.
use Rattle.std.specs.Prelude.{Bool, true, false, cond}
use Rattle.command.specs.Commands.{Asked, polling, reading, writing, deafening, unknown}
use Rattle.volatile.specs.declared.radio.Radio.{Radio}
use Rattle.volatile.specs.declared.radio.Radio.TheVariants.{Open, PollShut, Deaf}

-- An open hopper hears every command, a poll-shut one all but polling, and a deaf one none.
abbrev pub hears : Radio → Asked → Bool
hears Open (polling request slots) = true
hears Open (reading q) = true
hears Open (writing q) = true
hears Open (deafening identity) = true
hears Open unknown = false
hears PollShut (polling request slots) = false
hears PollShut (reading q) = true
hears PollShut (writing q) = true
hears PollShut (deafening identity) = true
hears PollShut unknown = false
hears (Deaf shut) a = false

-- what STATE says of polling: a deaf hopper keeps it
abbrev pub is_poll_shut : Radio → Bool
is_poll_shut Open = false
is_poll_shut PollShut = true
is_poll_shut (Deaf shut) = shut

-- after the command that deafens
abbrev pub deafened : Radio → Radio
deafened radio = Deaf (is_poll_shut radio)

-- after STATE is written: deafness stays
abbrev pub poll_set : Radio → Bool → Radio
poll_set Open shut = cond shut PollShut Open
poll_set PollShut shut = cond shut PollShut Open
poll_set (Deaf was) shut = Deaf shut
