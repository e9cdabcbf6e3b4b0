use Rattle.std.proofs.Common.{◌≡◌, ◌∙◌, List, ℕ, IfOk, sym, ap, subst}
use Rattle.serde_json.specs.Data.{Data}
use Rattle.serde_json.specs.View.{view}
use Rattle.model_files.specs.JsonContent.{slots_of, wrong_slots}
use Rattle.model_files.specs.JsonSteps.{printed}
use Rattle.model_files.proofs.JsonFaultLaws.{slots_are}
use Rattle.model_files.proofs.json_faults.wrong_slots.Goals as goal

pub returns-in-Some : goal.returns-in-Some
returns-in-Some c =
    subst (λ (slots : List (List ℕ × List Data)). IfOk c.wrong_slots_in.result (λ f. f ≡ wrong_slots c.args.meta.now (printed c.args.speaker) c.args.class.0 slots))
    (ap slots_of c.in-Some.ensures ∙ sym (slots_are (view c.args.value.now))) c.wrong_slots_in.ensures
