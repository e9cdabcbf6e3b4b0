-- What is collected step by step.
use Rattle.std.proofs.Common.{◌≡◌, List, map, sym, ◌∙◌, ap}
use Rattle.std.specs.List.{fold}
use Rattle.qv_syntax.specs.declared.operation.IteratorKind.TheVariants.{Collect}
use Rattle.qv_syntax.specs.declared.type_tree.Kind.{Kind}
use Rattle.qvtr_semantics.specs.declared.datum.Datum.{Datum}
use Rattle.qvtr_semantics.specs.declared.out.Out.{Out}
use Rattle.qvtr_semantics.specs.declared.out.Out.TheVariants.{Many}
use Rattle.ocl_eval.specs.declared.progress.Progress.{Progress}
use Rattle.qvtr_semantics.specs.Iterators.{collect}
use Rattle.qvtr_semantics.specs.Expressions.{with_collection}
use Rattle.ocl_eval.proofs.ProgressLaws.{iterated_by_steps}
use Rattle.ocl_eval.specs.Progress.{begun, advanced, iterator_result}

pub collected : (x out : Out) (kind : Kind) (elements ds : List Datum) (start progress : Progress) (f : Datum → Out) → x ≡ Many kind elements → start ≡ begun Collect → ds ≡ elements
    → progress ≡ fold advanced start (map f ds) → out ≡ iterator_result Collect (record { kind = kind; elements = elements }) progress
    → out ≡ with_collection x (λ c. collect c (map f c.elements))
collected x out kind elements ds start progress f is began same walked done =
    done
    ∙ ap (iterator_result Collect (record { kind = kind; elements = elements })) (walked ∙ ap (λ p. fold advanced p (map f ds)) began ∙ ap (λ es. fold advanced (begun Collect) (map f es)) same)
    ∙ iterated_by_steps Collect (record { kind = kind; elements = elements }) (map f elements)
    ∙ sym (ap (λ y. with_collection y (λ c. collect c (map f c.elements))) is)
