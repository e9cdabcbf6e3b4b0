use Rattle.std.proofs.Common.{ap, ap₂, ◌∙◌, refl}
use Rattle.std.specs.Prelude.{encode_utf8_all}
use Rattle.xmi_text.specs.Calls.{wrote}
use Rattle.xmi_profile.specs.Canon.{head}
use Rattle.xmi_profile.proofs.WritingModels.{canon_steps, head_here}
use Rattle.xmi_profile.proofs.writing.write_model.Goals as goal

pub write_head-requires : goal.write_head-requires
write_head-requires c = head_here c.args.model.now c.requires.valid.kept c.new-writer.result c.meta.result.now c.new-writer.ensures c.meta.ensures

pub write_tops-requires : goal.write_tops-requires
write_tops-requires c = (canon_steps c.args.model.now c.requires.valid.kept c.write_head.new.writer _ _ (c.in_ok-write_head.ensures ∙ ap₂ (λ w x. wrote w (head x)) c.new-writer.ensures c.meta.ensures) refl refl).tops

pub write_foot-requires : goal.write_foot-requires
write_foot-requires c = (canon_steps c.args.model.now c.requires.valid.kept c.write_head.new.writer c.write_tops.new.writer _ (c.in_ok-write_head.ensures ∙ ap₂ (λ w x. wrote w (head x)) c.new-writer.ensures c.meta.ensures) c.in_ok-write_tops.ensures refl).foot

pub into_bytes-requires : goal.into_bytes-requires
into_bytes-requires c = (canon_steps c.args.model.now c.requires.valid.kept c.write_head.new.writer c.write_tops.new.writer c.write_foot.new.writer (c.in_ok-write_head.ensures ∙ ap₂ (λ w x. wrote w (head x)) c.new-writer.ensures c.meta.ensures) c.in_ok-write_tops.ensures c.in_ok-write_foot.ensures).whole

pub returns : goal.returns
returns c = c.into_bytes.ensures.text ∙ ap (λ w. encode_utf8_all w.text) (canon_steps c.args.model.now c.requires.valid.kept c.write_head.new.writer c.write_tops.new.writer c.write_foot.new.writer (c.in_ok-write_head.ensures ∙ ap₂ (λ w x. wrote w (head x)) c.new-writer.ensures c.meta.ensures) c.in_ok-write_tops.ensures c.in_ok-write_foot.ensures).all
