use Rattle.std.proofs.Common.{◌∙◌, true≢false, sym, ap, encode_utf8_all}
use Rattle.mof_metamodel.specs.Metamodels.{prop_at}
use Rattle.model_files.proofs.JsonLaws.{nothing_put, slot_put}
use Rattle.model_files.proofs.json_values.put_slot.Goals as goal

pub returns-then-is_empty : goal.returns-then-is_empty
returns-then-is_empty c =
    nothing_put c.args.model.now c.args.o.0 c.args.p.0 c.in_ok-values.values _ c.in_ok-values.ensures (c.is_empty.ensures.0 c.if-is_empty.true)

pub returns : goal.returns
returns c =
    let m = c.args.model.now in
    slot_put m c.args.o.0 c.args.p.0 c.in_ok-values.values c.into_vec.result c.as_str-name.result.now _ _ c.in_ok-values.ensures c.into_vec.ensures
    (λ e. true≢false (sym (c.is_empty.ensures.1 e) ∙ c.if-is_empty.false))
    (c.as_str-name.ensures.bytes ∙ ap encode_utf8_all (c.prop.ensures.name ∙ ap (λ meta. (prop_at meta c.args.p.0).name) c.meta.ensures))
    c.in_ok-put.ensures.ok
