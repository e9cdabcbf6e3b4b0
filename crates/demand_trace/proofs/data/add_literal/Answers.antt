use Rattle.std.proofs.Common.{◌++◌, ◌∙◌, ap, append_assoc, chars}
use Rattle.std.specs.Prelude.{codes}
use Rattle.std.proofs.lemmas.Result.{on_ok_weaker}
use Rattle.demand_trace.proofs.NameLaws.{two_colons}
use Rattle.demand_trace.proofs.data.add_literal.Goals as goal

pub returns : goal.returns
returns c =
    let text = c.args.text.now in
    let name = chars c.literal_name.result.now in
    on_ok_weaker c.push_str-2.result
    (λ e. e ∙ ap (λ s. s ++ name) (c.in_ok-push_str.ensures.ok ∙ ap (λ s. text ++ s) two_colons) ∙ append_assoc text (codes "::") name
    ∙ ap (λ s. text ++ (codes "::" ++ s)) c.literal_name.ensures)
    c.push_str-2.ensures.ok
