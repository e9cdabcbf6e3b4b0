use Rattle.std.proofs.Common.{◌≡◌, ℕ, List, true, sym, ◌∙◌, ap, subst, encode_utf8_all}
use Rattle.xmi_text.specs.Writing.{is_whole}
use Rattle.xmi_text.specs.Markup.{Markup}
use Rattle.xmi_text.proofs.writing.Written.{written_markup}
use Rattle.xmi_text.proofs.writer.Writer.into_bytes.Goals as goal

-- what the calls wrote is the document of their tree
pub returns-clause-tree : goal.returns-clause-tree
returns-clause-tree c calls may e =
    let w = written_markup calls may (subst (λ x. is_whole x ≡ true) (sym e) c.requires) in
    let P : List ℕ → Type 0 = λ bytes. Markup bytes w.0 in
    let same : c.from_vec.result ≡ encode_utf8_all c.args.self.text = c.from_vec.ensures ∙ ap (λ v. v.items) c.into_bytes.ensures.value ∙ c.into_string.ensures.bytes ∙ ap (λ x. encode_utf8_all x.text) c.self.view_is in
    (w.0, w.1, subst P (ap (λ x. encode_utf8_all x.text) e ∙ sym same) w.2)
