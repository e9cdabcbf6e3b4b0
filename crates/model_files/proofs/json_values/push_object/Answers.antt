use Rattle.std.proofs.Common.{◌++◌, ◌∙◌, map, sym, ap, append-nil, true≢false}
use Rattle.serde_json.specs.View.{view}
use Rattle.model_files.proofs.JsonLaws.{gone_is, pushed_data}
use Rattle.model_files.proofs.json_values.push_object.Goals as goal

pub returns-then-not-is_live : goal.returns-then-not-is_live
returns-then-not-is_live c =
    sym (append-nil _) ∙ ap (λ ds. map view c.args.values.now ++ ds)
    (sym (gone_is c.args.model.now c.args.o.0 (λ live. true≢false (sym (c.is_live.ensures.1 live) ∙ c.if-not-is_live.true))))

pub returns : goal.returns
returns c =
    pushed_data c.args.model.now c.args.o.0 _ _ _ c.in_ok-push.ensures.ok c.in_ok-object_value.ensures (c.is_live.ensures.0 c.if-not-is_live.false)
