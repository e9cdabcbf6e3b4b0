-- A reader's marks are listed one after the other.
use Rattle.std.proofs.Common.{◌≡◌, ℕ, suc, ◌+◌, ◌-◌, ◌*◌, ◌^◌, ◌<◌, ◌≤◌, true, List, [], ◌∷◌, length, take, drop, sym, ◌∙◌, ap, arith, None, Some, Ok, Err}
use Rattle.std.specs.Prelude.{Option}
use Rattle.mof_metamodel.specs.Giving.{Gives}
use Rattle.mof_metamodel.specs.declared.desc.MetaDesc.{MetaDesc}
use Rattle.xmi_text.specs.declared.error.TextError.{TextError}
use Rattle.xmi_text.specs.declared.error.TextError.TheVariants as errors
use Rattle.xmi_text.specs.declared.error.TextFault.{TextFault}
use Rattle.xmi_text.specs.declared.mark.Mark.{Mark}
use Rattle.xmi_text.specs.Reading.{Fed, marks_of, end_fault_of}
use Rattle.xmi_text.specs.Trees.{told}
use Rattle.xmi_text.proofs.reading.Reached.{length-marks_of}
use Rattle.model_assembly.specs.declared.fault.Externs.{Externs}
use Rattle.xmi_profile.specs.Bytes.{next_by, next_of, text_fault, unless_fault, listing_of}
use Rattle.xmi_profile.specs.Listing.{Listing, nothing, listed, IsSound}
use Rattle.xmi_profile.proofs.ByteLaws.{next_some, next_none, next_err, given_within, listed_next, listed_end}

-- the marks that were given are listed
pub record Reads (meta : MetaDesc) (outside : Externs) (bytes : List ℕ) (fed : Fed) (l : Listing) : Type 0 where
  pub bytes_are : fed.bytes ≡ bytes
  pub finished : fed.finished ≡ true
  pub listing : l ≡ listed meta outside nothing (told (take fed.given (marks_of bytes)))
  pub few : fed.given ≤ length (marks_of bytes)
  pub sound : IsSound meta l
  pub room : l.place ≤ fed.given * 2 ^ 63

-- room for one more is left
pub room_left : (meta : MetaDesc) (outside : Externs) (bytes : List ℕ) (fed : Fed) (l : Listing) → Reads meta outside bytes fed l → length bytes < 2 ^ 63 → l.place + 2 ^ 64 < 2 ^ 128
room_left meta outside bytes fed l r small = omega (arith, r.room, r.few, length-marks_of bytes, small)

next_as : (fed : Fed) (bytes : List ℕ) → fed.bytes ≡ bytes → next_of fed ≡ next_by (end_fault_of bytes) (drop fed.given (marks_of bytes))
next_as fed bytes e = ap (λ (bs : List ℕ). next_by (end_fault_of bs) (drop fed.given (marks_of bs))) e

pub reads_next : (meta : MetaDesc) (outside : Externs) (bytes : List ℕ) (fed : Fed) (l k : Listing) (mark : Mark) → Reads meta outside bytes fed l
    → next_of fed ≡ Ok (Some mark) → k ≡ listed meta outside l (told (mark ∷ [])) → IsSound meta k → k.place ≤ l.place + 2 ^ 63
    → Reads meta outside bytes (record fed { given = fed.given + 1 }) k
reads_next meta outside bytes fed l k mark r n e s room =
    let f = next_some (end_fault_of bytes) (drop fed.given (marks_of bytes)) mark (sym (next_as fed bytes r.bytes_are) ∙ n) in
    let one : suc fed.given ≡ fed.given + 1 = omega arith in
    record {
      bytes_are = r.bytes_are;
      finished = r.finished;
      listing = e ∙ ap (λ (x : Listing). listed meta outside x (told (mark ∷ []))) r.listing ∙ sym (listed_next meta outside (marks_of bytes) fed.given mark f.0 f.1)
          ∙ ap (λ (k : ℕ). listed meta outside nothing (told (take k (marks_of bytes)))) one;
      few = omega (arith, given_within (marks_of bytes) fed.given mark f.0 f.1);
      sound = s;
      room = omega (arith, room, r.room);
    }

pub reads_fewer : (meta : MetaDesc) (outside : Externs) (bytes : List ℕ) (fed : Fed) (l : Listing) (mark : Mark) → Reads meta outside bytes fed l
    → next_of fed ≡ Ok (Some mark) → length (marks_of bytes) - (fed.given + 1) < length (marks_of bytes) - fed.given
reads_fewer meta outside bytes fed l mark r n =
    let f = next_some (end_fault_of bytes) (drop fed.given (marks_of bytes)) mark (sym (next_as fed bytes r.bytes_are) ∙ n) in
    omega (arith, given_within (marks_of bytes) fed.given mark f.0 f.1)

pub reads_end : (meta : MetaDesc) (outside : Externs) (bytes : List ℕ) (fed : Fed) (l : Listing) → Reads meta outside bytes fed l
    → next_of fed ≡ Ok None → listing_of meta outside bytes ≡ Ok l
reads_end meta outside bytes fed l r n =
    let f = next_none (end_fault_of bytes) (drop fed.given (marks_of bytes)) (sym (next_as fed bytes r.bytes_are) ∙ n) in
    ap (λ (fault : Option TextFault). unless_fault fault (listed meta outside nothing (told (marks_of bytes)))) f.0
    ∙ ap (λ (x : Listing). unless_fault None x) (sym (listed_end meta outside (marks_of bytes) fed.given f.1) ∙ sym r.listing)

pub reads_err : (meta : MetaDesc) (outside : Externs) (bytes : List ℕ) (fed : Fed) (l : Listing) (error : TextError) → Reads meta outside bytes fed l
    → Gives text_fault (λ (mark : Option Mark). mark) (Err error) (next_of fed) → Gives text_fault (λ (x : Listing). x) (Err error) (listing_of meta outside bytes)
reads_err meta outside bytes fed l (errors.Fault fault) r h =
    ap (λ (f : Option TextFault). unless_fault f (listed meta outside nothing (told (marks_of bytes))))
    (next_err (end_fault_of bytes) (drop fed.given (marks_of bytes)) fault (sym (next_as fed bytes r.bytes_are) ∙ h))
reads_err meta outside bytes fed l errors.NoMemory r h = tt
