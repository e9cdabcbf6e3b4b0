use Rattle.std.proofs.Common.{◌≡◌, List, sym, ap, subst, ◌∙◌}
use Rattle.std.proofs.lemmas.Result.{on_ok_weaker}
use Rattle.xmi_text.specs.Calls.{Call, wrote}
use Rattle.xmi_profile.specs.Writable.{CanWrite, calls_at}
use Rattle.xmi_profile.specs.Canon.{top_calls}
use Rattle.xmi_profile.proofs.WritingForms.{no_top, top_here}
use Rattle.xmi_profile.proofs.writing.write_if_top.Goals as goal

pub write_top-requires-clause-top : goal.write_top-requires-clause-top
write_top-requires-clause-top c = sym c.is_top_object.ensures ∙ c.if-is_top_object.true

pub write_top-requires-clause-can : goal.write_top-requires-clause-can
write_top-requires-clause-can c = subst (CanWrite c.args.writer.now) (top_here c.args.model.now c.args.o.0 c.is_top_object.result c.is_top_object.ensures c.if-is_top_object.true) c.requires

pub returns-then-is_top_object : goal.returns-then-is_top_object
returns-then-is_top_object c =
    let here : (c.write_top.new.writer ≡ wrote c.args.writer.now (top_calls c.args.model.now c.args.o.0)) → (c.write_top.new.writer ≡ wrote c.args.writer.now (calls_at c.args.model.now c.args.o.0)) =
    λ e. subst (λ (calls : List Call). c.write_top.new.writer ≡ wrote c.args.writer.now calls) (sym (top_here c.args.model.now c.args.o.0 c.is_top_object.result c.is_top_object.ensures c.if-is_top_object.true)) e
    in
    on_ok_weaker c.write_top.result here c.write_top.ensures

pub returns-else-is_top_object : goal.returns-else-is_top_object
returns-else-is_top_object c = sym (ap (wrote c.args.writer.now) (no_top c.args.model.now c.args.o.0 c.is_top_object.result c.is_top_object.ensures c.if-is_top_object.false))
