use Rattle.std.proofs.Common.{◌≡◌, ◌∙◌, ◌<◌, ℕ, List, false, length, map, sym, ap, subst}
use Rattle.model_assembly.specs.declared.assembly.naming.Naming.{Naming}
use Rattle.model_assembly.specs.AssemblyFirsts.{is_unanswered}
use Rattle.model_assembly.specs.AssemblyNamings.{IsSecondWhole, naming_of, at, sayings_of}
use Rattle.model_assembly.specs.AssemblyReferences.{IsFoundOr, NoneDangles}
use Rattle.model_assembly.proofs.assembling.ToldLaws.{targets_some}
use Rattle.model_assembly.proofs.assembly.references.named.Goals as goal

pub namings_of-requires : goal.namings_of-requires
namings_of-requires c =
    let meta = c.args.meta.now in
    let f = c.args.filed.now in
    let none : NoneDangles meta f c.as_slice.result.now = subst (IsFoundOr (NoneDangles meta f c.as_slice.result.now) meta f) c.in_ok-refuse.ensures c.in_ok-dangling.ensures in
    targets_some meta f c.as_slice-2.result.now (subst (NoneDangles meta f) (c.as_slice.ensures.value ∙ sym c.as_slice-2.ensures.value) none)

pub mismatch-requires-clause-single : goal.mismatch-requires-clause-single
mismatch-requires-clause-single c =
    let meta = c.args.meta.now in
    let f = c.args.filed.now in
    let Single : List Naming → Type 0 = λ xs. (j : ℕ) → j < length xs → IsSecondWhole meta xs j → ⊥ in
    let single : Single c.as_slice-3.result.now = subst (IsFoundOr (Single c.as_slice-3.result.now) meta f) c.in_ok-refuse-2.ensures c.in_ok-contained_twice.ensures in
    subst Single (c.as_slice-3.ensures.value ∙ sym c.as_slice-4.ensures.value) single

pub returns-clause-ok : goal.returns-clause-ok
returns-clause-ok c =
    let meta = c.args.meta.now in
    let f = c.args.filed.now in
    let Single : List Naming → Type 0 = λ xs. (j : ℕ) → j < length xs → IsSecondWhole meta xs j → ⊥ in
    let Answered : List Naming → Type 0 = λ xs. (j : ℕ) → j < length xs → is_unanswered meta xs (sayings_of xs f.mentions) (at xs j) ≡ false in
    let none : NoneDangles meta f c.as_slice.result.now = subst (IsFoundOr (NoneDangles meta f c.as_slice.result.now) meta f) c.in_ok-refuse.ensures c.in_ok-dangling.ensures in
    let single : Single c.as_slice-3.result.now = subst (IsFoundOr (Single c.as_slice-3.result.now) meta f) c.in_ok-refuse-2.ensures c.in_ok-contained_twice.ensures in
    let answered : Answered c.as_slice-4.result.now = subst (IsFoundOr (Answered c.as_slice-4.result.now) meta f) c.in_ok-refuse-3.ensures c.in_ok-mismatch.ensures in
    record {
      named = record {
        entries = c.in_ok-entries.entries.items;
        order = c.in_ok-entries.ensures;
        fit = subst (NoneDangles meta f) c.as_slice.ensures.value none;
        namings = c.in_ok-namings.ensures ∙ ap (map naming_of) c.as_slice-2.ensures.value;
      };
      single = subst Single c.as_slice-3.ensures.value single;
      answered = subst Answered c.as_slice-4.ensures.value answered;
    }
