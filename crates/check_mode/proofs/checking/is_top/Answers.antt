use Rattle.std.proofs.Common.{◌≡◌, ◌<◌, List, get_or, length, sym, subst}
use Rattle.qv_syntax.specs.declared.program.Rel.{Rel}
use Rattle.check_mode.proofs.TopLaws.{top_decides}
use Rattle.check_mode.proofs.checking.is_top.Goals as goal

pub bounds-as_slice-number : goal.bounds-as_slice-number
bounds-as_slice-number c = subst (λ (rs : List Rel). c.args.number < length rs) (sym c.as_slice.ensures) c.requires

pub returns : goal.returns
returns c =
    let rel = c.index-as_slice-number.result in
    top_decides c.args.program.now c.args.number rel c.requires (subst (λ (rs : List Rel). rel ≡ get_or rs c.args.number rel) c.as_slice.ensures c.index-as_slice-number.is)
