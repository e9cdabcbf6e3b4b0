use Rattle.std.proofs.Common.{◌≡◌, ◌∙◌, false, sym, arith, below_more}
use Rattle.model_assembly.specs.AssemblyFirsts.{is_contradicted_by}
use Rattle.model_assembly.specs.AssemblyNamings.{at, naming, IsSecondWhole}
use Rattle.model_assembly.proofs.assembling.FirstLaws.{not_second, count_step, parts_step}
use Rattle.model_assembly.proofs.assembly.first.first_second_whole.Goals as goal

pub loop-i-preserved : goal.loop-i-preserved
loop-i-preserved c =
    let meta = c.args.meta.now in
    let xs = c.args.namings.now in
    let i = c.loop-i.i in
    let parts = c.loop-i.parts in
    let inv = c.loop-i.invariant in
    let e : is_contradicted_by meta parts (at xs i) ≡ false = sym c.contradicts_by.ensures.result ∙ c.if-contradicts_by.false in (
      below_more (λ j. IsSecondWhole meta xs j → ⊥) i inv.0 (not_second meta xs i parts inv.2 e),
      count_step meta parts c.contradicts_by.new.parts (at xs i) c.args.count c.contradicts_by.ensures.parts inv.1,
      parts_step meta xs i c.args.count parts c.contradicts_by.new.parts inv.2 inv.1 e (c.requires.object i (naming 0 0 0) (omega arith)) (c.requires.target i (naming 0 0 0) (omega arith)) c.contradicts_by.ensures.parts,
    )

pub returns : goal.returns
returns c = λ j l. c.loop-i.invariant.0 j (omega (arith, l))
