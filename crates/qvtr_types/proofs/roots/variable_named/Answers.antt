use Rattle.std.proofs.Common.{sym, ap, ◌∙◌, arith}
use Rattle.std.specs.Prelude.{Some}
use Rattle.std.proofs.lemmas.Option.{slice_get-get_or}
use Rattle.qvtr_types.proofs.roots.variable_named.Goals as goal

pub returns : goal.returns
returns c = record {
  place = c.in-Some.place;
  named = sym c.in-Some.ensures.number;
  found = slice_get-get_or c.args.vars.now c.in-Some.place c.index-vars-place.result (omega (arith, c.requires.count, c.in-Some.ensures.within)) ∙ ap Some (sym c.index-vars-place.is);
}
