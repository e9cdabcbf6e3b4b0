-- The told fault is the first that stands, and none stands in a document.
use Rattle.std.proofs.Common.{◌≡◌, ℕ, ◌≤◌, ◌<◌, ◌⊎◌, List, refl, sym, ◌∙◌, ap, arith, cond, Option, Some, None, inl, inr}
use Rattle.std.specs.Prelude.{◌==◌}
use Rattle.xmi_text.specs.Faults.{IsFirstFault, rank}
use Rattle.xmi_text.specs.Reading.{end_fault_of}
use Rattle.xmi_text.specs.declared.error.TextFault.{TextFault}
use Rattle.xmi_text.specs.declared.error.TextKind.{TextKind}
use Rattle.xmi_text.specs.declared.error.TextKind.TheVariants as kinds
use Rattle.xmi_text.proofs.backward.Whole.{whole_markup}
use Rattle.xmi_text.proofs.faults.Found.{found}
use Rattle.xmi_text.proofs.faults.Prefixes.{IsNeverMissed, IsOutsideDocuments, marks_never_missed, marks_outside, open_never_missed, open_outside}
use Rattle.xmi_text.proofs.faults.Told.{told_never_missed, told_outside}
use Rattle.xmi_text.proofs.faults.ToldBytes.{utf_never_missed, utf_outside}
use Rattle.xmi_text.proofs.faults.ToldNames.{name_told, doctype_told, limit_told}
use Rattle.xmi_text.proofs.faults.ToldEnds.{end_told}
use Rattle.xmi_text.proofs.faults.ToldDuplicates.{duplicate_told}
use Rattle.xmi_text.proofs.faults.ToldReferences.{entity_told}

pub never_missed : (kind : TextKind) → IsNeverMissed kind
never_missed kinds.BadUtf8 = utf_never_missed
never_missed kinds.BadMark = marks_never_missed
never_missed kinds.BadName = told_never_missed kinds.BadName name_told
never_missed kinds.OpenTag = open_never_missed
never_missed kinds.WrongEnd = told_never_missed kinds.WrongEnd end_told
never_missed kinds.DuplicateAttribute = told_never_missed kinds.DuplicateAttribute duplicate_told
never_missed kinds.BadEntity = told_never_missed kinds.BadEntity entity_told
never_missed kinds.Doctype = told_never_missed kinds.Doctype doctype_told
never_missed kinds.Limit = told_never_missed kinds.Limit limit_told

pub outside_documents : (kind : TextKind) → IsOutsideDocuments kind
outside_documents kinds.BadUtf8 = utf_outside
outside_documents kinds.BadMark = marks_outside
outside_documents kinds.BadName = told_outside kinds.BadName name_told
outside_documents kinds.OpenTag = open_outside
outside_documents kinds.WrongEnd = told_outside kinds.WrongEnd end_told
outside_documents kinds.DuplicateAttribute = told_outside kinds.DuplicateAttribute duplicate_told
outside_documents kinds.BadEntity = told_outside kinds.BadEntity entity_told
outside_documents kinds.Doctype = told_outside kinds.Doctype doctype_told
outside_documents kinds.Limit = told_outside kinds.Limit limit_told

pub told_first : (bytes : List ℕ) (fault : TextFault) → end_fault_of bytes ≡ Some fault → IsFirstFault bytes fault
told_first bytes fault e = record { stands = found bytes fault e; first = λ kind n b. never_missed kind bytes fault n e b }

-- ---- there is one first fault

of_rank : ℕ → TextKind
of_rank n =
    cond (n == 0) kinds.BadUtf8
    (cond (n == 1) kinds.BadName
    (cond (n == 2) kinds.OpenTag
    (cond (n == 3) kinds.WrongEnd (cond (n == 4) kinds.DuplicateAttribute (cond (n == 5) kinds.BadEntity (cond (n == 6) kinds.Doctype (cond (n == 7) kinds.Limit kinds.BadMark)))))))

ranked : (kind : TextKind) → of_rank (rank kind) ≡ kind
unfolding of_rank
ranked kinds.BadUtf8 = refl
ranked kinds.BadMark = refl
ranked kinds.BadName = refl
ranked kinds.OpenTag = refl
ranked kinds.WrongEnd = refl
ranked kinds.DuplicateAttribute = refl
ranked kinds.BadEntity = refl
ranked kinds.Doctype = refl
ranked kinds.Limit = refl

same_place : (m n a b : ℕ) → (m < n) ⊎ ((m ≡ n) × (a ≤ b)) → (n < m) ⊎ ((n ≡ m) × (b ≤ a)) → (m ≡ n) × (a ≡ b)
same_place m n a b (inl x) (inl y) = absurd (both x y)
  where
    both : m < n → n < m → ⊥
    both x y = omega arith
same_place m n a b (inl x) (inr y) = let e = y.0 in absurd (both x e)
  where
    both : m < n → n ≡ m → ⊥
    both x e = omega arith
same_place m n a b (inr x) (inl y) = let e = x.0 in absurd (both e y)
  where
    both : m ≡ n → n < m → ⊥
    both e y = omega arith
same_place m n a b (inr x) (inr y) = let h = x.1 in let k = y.1 in (x.0, omega (arith, h, k))

one_first : (bytes : List ℕ) (f g : TextFault) → IsFirstFault bytes f → IsFirstFault bytes g → f ≡ g
one_first bytes f g p q =
    let same = same_place f.at g.at (rank f.kind) (rank g.kind) (p.first g.kind g.at q.stands) (q.first f.kind f.at p.stands) in
    let kind : f.kind ≡ g.kind = sym (ranked f.kind) ∙ ap of_rank same.1 ∙ ranked g.kind in
    ap (λ (n : ℕ). record f { at = n }) same.0 ∙ ap (λ (k : TextKind). record g { kind = k }) kind

first_by : (bytes : List ℕ) (fault : TextFault) (o : Option TextFault) → end_fault_of bytes ≡ o → IsFirstFault bytes fault → o ≡ Some fault
first_by bytes fault None e p = absurd (outside_documents fault.kind bytes (whole_markup bytes e).0 fault.at (whole_markup bytes e).1 p.stands)
first_by bytes fault (Some g) e p = ap (λ (f : TextFault). Some f) (one_first bytes g fault (told_first bytes g e) p)

pub first_told : (bytes : List ℕ) (fault : TextFault) → IsFirstFault bytes fault → end_fault_of bytes ≡ Some fault
first_told bytes fault p = first_by bytes fault (end_fault_of bytes) refl p
