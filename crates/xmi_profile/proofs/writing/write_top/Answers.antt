use Rattle.std.proofs.Common.{◌≡◌, ℕ, List, sym, subst, ◌∙◌}
use Rattle.std.proofs.lemmas.Result.{on_ok_weaker}
use Rattle.std.specs.Prelude.{chars}
use Rattle.xmi_text.specs.Calls.{wrote}
use Rattle.xmi_profile.specs.Canon.{object_calls, top_calls}
use Rattle.xmi_profile.specs.Writable.{CanWrite}
use Rattle.xmi_profile.proofs.WritingForms.{top_is_live}
use Rattle.xmi_profile.proofs.writing.write_top.Goals as goal

pub typed_name-requires : goal.typed_name-requires
typed_name-requires c = top_is_live c.args.model.now c.args.o.0 c.requires.top

pub write_object-requires-clause-live : goal.write_object-requires-clause-live
write_object-requires-clause-live c = top_is_live c.args.model.now c.args.o.0 c.requires.top

pub write_object-requires-clause-can : goal.write_object-requires-clause-can
write_object-requires-clause-can c =
    subst (λ (x : List ℕ). CanWrite c.args.writer.now (object_calls c.args.model.now 200 x c.args.o.0)) (sym (c.as_str.ensures.characters ∙ c.in_ok-name.ensures)) c.requires.can

pub returns : goal.returns
returns c =
    let named : (c.write_object.new.writer ≡ wrote c.args.writer.now (object_calls c.args.model.now 200 (chars c.as_str.result.now) c.args.o.0)) → (c.write_object.new.writer ≡ wrote c.args.writer.now (top_calls c.args.model.now c.args.o.0)) =
    λ e. subst (λ (x : List ℕ). c.write_object.new.writer ≡ wrote c.args.writer.now (object_calls c.args.model.now 200 x c.args.o.0)) (c.as_str.ensures.characters ∙ c.in_ok-name.ensures) e
    in
    on_ok_weaker c.write_object.result named c.write_object.ensures
