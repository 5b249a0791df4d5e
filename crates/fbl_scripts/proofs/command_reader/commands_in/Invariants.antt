-- the commands so far and those of what is left are those of the list
use Rattle.std.proofs.Common.{◌≡◌, ◌≤◌, map, drop}
use Rattle.serde_json.specs.View.{view}
use Rattle.fbl_scripts.specs.Scripts.{with_front, commands_from, command_shape}
use Rattle.fbl_scripts.proofs.command_reader.commands_in.Given as goal

abbrev pub invariant-loop-value : goal.invariant-loop-value
invariant-loop-value l = record {
  counted : l.place ≡ l.value-index;
  few : l.place ≤ 1024;
  told : with_front l.commands.items (commands_from (command_shape l.version) l.place (map view (drop l.value-index l.list))) ≡ commands_from (command_shape l.version) 0 (map view l.list);
}
