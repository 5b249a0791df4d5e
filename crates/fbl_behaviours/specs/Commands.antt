-- Commands, and what they make of a value.
use Rattle.std.specs.Prelude.{ℕ, ◌+◌, ◌-◌, ◌^◌, ◌==◌, List, min, if◌then◌else◌}
use Rattle.std.specs.List.{fold}
use Rattle.fbl_behaviours.specs.declared.command.Command.{Command}
use Rattle.fbl_behaviours.specs.declared.command.Command.TheVariants.{Put, Add}

-- the key of a command
abbrev pub key_of : Command → ℕ
key_of (Put key value) = key
key_of (Add key amount) = key

-- the amount that it brings
abbrev pub amount_of : Command → ℕ
amount_of (Put key value) = value
amount_of (Add key amount) = amount

-- what it makes of a value: another takes its place, or an amount is added
abbrev pub changed : Command → ℕ → ℕ
changed (Put key value) old = value
changed (Add key amount) old = min (old + amount) (2 ^ 64 - 1)

-- what the command makes of the value of this key: one on another key leaves it
abbrev pub changed_at : ℕ → ℕ → Command → ℕ
changed_at key value command = if key_of command == key then changed command value else value

-- what commands make of the key, in their order, from nothing
abbrev pub made_of : ℕ → List Command → ℕ
made_of key commands = fold (changed_at key) 0 commands
