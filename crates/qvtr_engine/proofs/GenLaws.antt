-- The example has one summary.
use Rattle.std.proofs.Common.{◌≡◌, ℕ, Bool, sym, ◌∙◌, ap, subst}
use Rattle.std.proofs.lemmas.Option.{same_Some}
use Rattle.repair_semantics.specs.Reports.{IsReport}
use Rattle.demand_set.specs.DemandSets.{DemandData}
use Rattle.enforcement_laws.proofs.Repairing.{one_set}
use Rattle.example_program.specs.MainProgram.{main_program_data}
use Rattle.example_laws.specs.ExampleModels.{first_models}
use Rattle.example_run.specs.Examples.{IsFirst, IsSummary}
use Rattle.example_run.specs.declared.summary.Summary.{Summary}
use Rattle.qvtr_engine.specs.declared.gen_words.GenRequest.{GenRequest}
use Rattle.qvtr_engine.specs.GenAnswer.{GenAnswer, summarized}
use Rattle.qvtr_engine.specs.Reply.{Reply, generated}
use Rattle.qvtr_engine.proofs.EnforceAlikeLaws.{one_report}

one_first : (n seed a b : ℕ) → IsFirst n seed a → IsFirst n seed b → a ≡ b
one_first n seed a b x y =
    let models = first_models n seed in
    let here = x.repaired in
    let there = y.repaired in
    let target : there.target ≡ here.target = same_Some there.target here.target (sym there.demanded.target_is ∙ here.demanded.target_is) in
    let demands : there.demands ≡ here.demands = one_set main_program_data models there.demands here.demands there.demanded.are here.demanded.are in
    let moved : IsReport main_program_data here.target here.demands.list y.report =
    subst (λ t. IsReport main_program_data t here.demands.list y.report) target
    (subst (λ (d : DemandData). IsReport main_program_data there.target d.list y.report) demands there.report_is) in
    let report = one_report main_program_data here.target here.demands.list x.report y.report here.report_is moved in
    x.created_is ∙ ap (λ r. r.created) report ∙ sym y.created_is

summary_of : ℕ → ℕ → ℕ → Bool → Bool → Summary
summary_of classes attributes created holds unchanged =
    record { classes = classes; attributes = attributes; created = created; holds = holds; unchanged = unchanged }

one_summary : (n seed : ℕ) (s t : Summary) → IsSummary n seed s → IsSummary n seed t → s ≡ t
unfolding summary_of
one_summary n seed s t x y =
    let classes : s.classes ≡ t.classes = x.classes_are ∙ sym y.classes_are in
    let attributes : s.attributes ≡ t.attributes = x.attributes_are ∙ sym y.attributes_are in
    let created : s.created ≡ t.created = one_first n seed s.created t.created x.outcome.created_are y.outcome.created_are in
    let holds : s.holds ≡ t.holds = x.outcome.holds_then ∙ sym y.outcome.holds_then in
    let unchanged : s.unchanged ≡ t.unchanged = x.outcome.unchanged_then ∙ sym y.outcome.unchanged_then in
    λ i. summary_of (classes i) (attributes i) (created i) (holds i) (unchanged i)

pub one_generation : (g : GenRequest) (reply other : Reply) → GenAnswer g reply → GenAnswer g other → reply ≡ other
one_generation g reply other (summarized s x) (summarized t y) = ap generated (one_summary g.classes g.seed s t x y)
