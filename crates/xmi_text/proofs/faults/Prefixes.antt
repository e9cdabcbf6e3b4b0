-- What begins a document: all first bytes of what does, and where a fault comes too late, what does not.
use Rattle.std.proofs.Common.{◌≡◌, ℕ, ◌+◌, ◌-◌, ◌≤◌, ◌⊎◌, List, [], ◌++◌, length, take, drop, sym, ◌∙◌, ap, subst, arith, Option, Some, None, inl, inr, append_assoc, append-nil}
use Rattle.std.proofs.Math.Seq.{take-length, take-add}
use Rattle.std.proofs.lemmas.Bool.{cases_lt}
use Rattle.xmi_text.specs.Completion.{MayGoOn}
use Rattle.xmi_text.specs.Faults.{IsFaultAt, IsBefore, rank}
use Rattle.xmi_text.specs.Markup.{Begins, Markup}
use Rattle.xmi_text.specs.Reading.{end_fault_of}
use Rattle.xmi_text.specs.Trees.{Tree}
use Rattle.xmi_text.specs.declared.error.TextFault.{TextFault}
use Rattle.xmi_text.specs.declared.error.TextKind.{TextKind}
use Rattle.xmi_text.specs.declared.error.TextKind.TheVariants as kinds
use Rattle.xmi_text.proofs.completion.Ending.{only_open}
use Rattle.xmi_text.proofs.completion.Places.{before_fault}
use Rattle.xmi_text.proofs.forward.Spelled.{markup_spelled}
use Rattle.xmi_text.proofs.backward.Whole.{goes_on_begins}

-- where a fault of the kind stands, the told one comes before it, or is it
abbrev pub IsNeverMissed : TextKind → Type 0
IsNeverMissed kind = (bytes : List ℕ) (fault : TextFault) (n : ℕ) → end_fault_of bytes ≡ Some fault → IsFaultAt bytes kind n → IsBefore fault.at fault.kind n kind

-- a fault of the kind stands in no document
abbrev pub IsOutsideDocuments : TextKind → Type 0
IsOutsideDocuments kind = (bytes : List ℕ) (tree : Tree) (n : ℕ) → Markup bytes tree → IsFaultAt bytes kind n → ⊥

-- bytes that begin a document may go on to a whole text
pub begins_goes_on : (bytes : List ℕ) → Begins bytes → MayGoOn bytes
begins_goes_on bytes b = only_open bytes b.0 (markup_spelled _ b.1 b.2).whole

pub begins_part : (xs ys : List ℕ) → Begins (xs ++ ys) → Begins xs
begins_part xs ys b = (ys ++ b.0, b.1, subst (λ (zs : List ℕ). Markup zs b.1) (append_assoc xs ys b.0) b.2)

pub begins_take : (bytes : List ℕ) (m n : ℕ) → m ≤ n → Begins (take n bytes) → Begins (take m bytes)
begins_take bytes m n h b =
    let sum : n ≡ m + (n - m) = omega arith in
    begins_part (take m bytes) (take (n - m) (drop m bytes)) (subst Begins (ap (λ (k : ℕ). take k bytes) sum ∙ take-add m (n - m) bytes) b)

pub document_begins : (bytes : List ℕ) (tree : Tree) (n : ℕ) → Markup bytes tree → n ≤ length bytes → Begins (take n bytes)
document_begins bytes tree n m h = begins_take bytes n (length bytes) h (subst Begins (sym (take-length bytes)) ([], tree, subst (λ (xs : List ℕ). Markup xs tree) (sym (append-nil bytes)) m))

-- the bytes before the told fault begin a document
pub begins_before : (bytes : List ℕ) (f : TextFault) (n : ℕ) → end_fault_of bytes ≡ Some f → n ≤ f.at → Begins (take n bytes)
begins_before bytes f n e h = begins_take bytes n f.at h (goes_on_begins (take f.at bytes) (before_fault bytes f e))

rank_most : (kind : TextKind) → rank kind ≤ 8
rank_most kinds.BadUtf8 = omega arith
rank_most kinds.BadMark = omega arith
rank_most kinds.BadName = omega arith
rank_most kinds.OpenTag = omega arith
rank_most kinds.WrongEnd = omega arith
rank_most kinds.DuplicateAttribute = omega arith
rank_most kinds.BadEntity = omega arith
rank_most kinds.Doctype = omega arith
rank_most kinds.Limit = omega arith

pub marks_never_missed : IsNeverMissed kinds.BadMark
marks_never_missed bytes f n e b =
    elim (cases_lt n f.at) [
      | inl early ↦ absurd (b.through (subst Begins (sym (append-nil (take (n + 1) bytes))) (begins_before bytes f (n + 1) e (omega arith))))
      | inr late ↦ elim (cases_lt f.at n) [ inl less ↦ inl less | inr more ↦ inr (omega arith, rank_most f.kind) ]
    ]

pub marks_outside : IsOutsideDocuments kinds.BadMark
marks_outside bytes tree n m b =
    let h = b.within in
    b.through (subst Begins (sym (append-nil (take (n + 1) bytes))) (document_begins bytes tree (n + 1) m (omega (arith, h))))

open_fault_is : (f : TextFault) (n : ℕ) (o : Option TextFault) → o ≡ Some f → (o ≡ None) ⊎ (o ≡ Some (record { kind = kinds.OpenTag; at = n })) → f ≡ record { kind = kinds.OpenTag; at = n }
open_fault_is f n None e g = cc
open_fault_is f n (Some h) e (inl none) = cc
open_fault_is f n (Some h) e (inr some) = cc

pub open_never_missed : IsNeverMissed kinds.OpenTag
open_never_missed bytes f n e b =
    let same = open_fault_is f (length bytes) (end_fault_of bytes) e (begins_goes_on bytes b.begun) in
    let at : f.at ≡ n = ap (λ (g : TextFault). g.at) same ∙ sym b.end in
    inr (at, rw (ap (λ (g : TextFault). g.kind) same) (omega arith))

pub open_outside : IsOutsideDocuments kinds.OpenTag
open_outside bytes tree n m b = b.none tree m
