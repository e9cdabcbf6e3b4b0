use Rattle.std.proofs.Common.{◌∷◌, [], sym, ◌∙◌, ap}
use Rattle.std.specs.List.{fold}
use Rattle.std.specs.Prelude.{chars}
use Rattle.std.proofs.lemmas.List.{map-id}
use Rattle.std.proofs.lemmas.List.Sums.{fold-append}
use Rattle.std.proofs.lemmas.Iterator.{YieldsList-from_chars}
use Rattle.std.proofs.lemmas.Iterator.Consumers.{YieldsList-end}
use Rattle.xmi_text.specs.Spellings.{longer, is_spelled}
use Rattle.xmi_text.specs.declared.names.Spelling.TheVariants.{Nothing}
use Rattle.xmi_text.proofs.writing.Spelling.{spelled_names}
use Rattle.xmi_text.proofs.names.is_name.Goals as goal

-- one more character
pub loop-c-preserved : goal.loop-c-preserved
loop-c-preserved c =
    c.longer-spelling.ensures
    ∙ ap (λ s. longer s c.in-Some.c) c.loop-c.invariant
    ∙ sym (fold-append longer Nothing c.loop-c.yielded (c.in-Some.c ∷ []))

-- all of them
pub returns : goal.returns
returns c =
    let t = YieldsList-end (YieldsList-from_chars c.args.text.now c.utf8.text cc) c.loop-c.yielded _ c.loop-c.yielded_by _ _ c.in-None.is c.next.ensures.steps in
    c.is_spelled.ensures
    ∙ ap is_spelled c.loop-c.invariant
    ∙ ap (λ cs. is_spelled (fold longer Nothing cs)) (sym (map-id c.loop-c.yielded) ∙ t.0)
    ∙ spelled_names (chars c.args.text.now)
