use Rattle.std.proofs.Common.{◌≡◌, All, length, map, drop}
use Rattle.term_table.specs.TermTables.{values_in, IsGrown}
use Rattle.entry_making.specs.KeyedVariables.{shown_keyed, terms_made}
use Rattle.entry_making.specs.Numbered.{IsValueWithin}
use Rattle.entry_making.proofs.known.make_all.Given as goal

abbrev pub invariant-loop-one : goal.invariant-loop-one
invariant-loop-one l = record {
  values : terms_made l.world.program.now l.world.models.now l.fn.scope (values_in l.table l.values) (map shown_keyed (drop l.one-index l.keyed))
      ≡ terms_made l.world.program.now l.world.models.now l.fn.scope (values_in l.fn.table l.fn.values) (map shown_keyed l.keyed);
  within : All (IsValueWithin l.table) l.values;
  places : length l.values ≡ length l.fn.values;
  grown : IsGrown l.fn.table l.table;
  scope : l.scope ≡ l.fn.scope;
}
