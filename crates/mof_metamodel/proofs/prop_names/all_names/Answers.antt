use Rattle.std.proofs.Common.{ap, ◌∙◌, arith}
use Rattle.mof_metamodel.specs.declared.desc.PropDesc.{PropDesc}
use Rattle.mof_metamodel.specs.Tables.{with_name}
use Rattle.mof_metamodel.proofs.NumberLemmas.{names_more}
use Rattle.mof_metamodel.proofs.prop_names.all_names.Goals as goal

pub loop-p-preserved : goal.loop-p-preserved
loop-p-preserved c =
    names_more c.args.named.now c.loop-p.names c.loop-p.p (omega (arith, c.prop_count-p-end.ensures)) c.loop-p.invariant _
    (c.in_ok-add.ensures ∙ ap (λ (d : PropDesc). with_name c.loop-p.names d.name c.loop-p.p) c.prop.ensures)
