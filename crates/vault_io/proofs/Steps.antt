-- One read, and one write, after those before.
use Rattle.std.proofs.Common.{◌≡◌, ◌≢◌, ℕ, ◌+◌, ◌-◌, ◌<◌, ◌≤◌, List, ◌++◌, length, take, drop, refl, sym, subst, ap, ◌∙◌, append_assoc, arith}
use Rattle.std.proofs.Math.Seq.{take-add}
use Rattle.std.proofs.lemmas.List.{length-append, length-take-le, take_all}
use Rattle.std.specs.Prelude.{Option, None, Some, IfSome, IsSomeAnd}
use Rattle.std.specs.FinMap.{get}
use Rattle.vault_io.specs.Files.{Files, OfFile, Reads}
use Rattle.vault_io.specs.Sinks.{appended}

-- one more piece goes on where those before ended
pub appended_on : (told : Option (List ℕ)) (bytes : List ℕ) (done n : ℕ) →
    appended (appended told (take done bytes)) (take n (drop done bytes)) ≡ appended told (take (done + n) bytes)
appended_on None bytes done n = refl
appended_on (Some held) bytes done n =
    ap Some (append_assoc held (take done bytes) (take n (drop done bytes))
    ∙ ap (λ xs. held ++ xs) (sym (take-add done n bytes)))

-- these bytes are the front of the file of this name, where the files are told and have it
abbrev pub IsFront : Option Files → List ℕ → List ℕ → Type 0
IsFront told name bytes = IfSome told (λ files. IfSome (get files name) (λ file. take (length bytes) file ≡ bytes))

-- what a read of a file gave goes on where the front ended
front_of : (found : Option (List ℕ)) (bytes buffer : List ℕ) (n : ℕ) → n ≤ length buffer →
    IfSome found (λ file. take (length bytes) file ≡ bytes) → IsSomeAnd found (λ file. Reads file (length bytes) n buffer) →
    IfSome found (λ file. take (length (bytes ++ take n buffer)) file ≡ bytes ++ take n buffer)
front_of None bytes buffer n room front read = tt
front_of (Some file) bytes buffer n room front read =
    ap (λ k. take k file) (length-append bytes (take n buffer) ∙ ap (λ k. length bytes + k) (length-take-le n buffer room))
    ∙ take-add (length bytes) n file
    ∙ ap (λ xs. xs ++ take n (drop (length bytes) file)) front
    ∙ ap (λ xs. bytes ++ xs) (sym read.bytes)

pub front_on : (told : Option Files) (name bytes buffer : List ℕ) (at n : ℕ) → at ≡ length bytes → n ≤ length buffer →
    IsFront told name bytes → OfFile told name (λ file. Reads file at n buffer) → IsFront told name (bytes ++ take n buffer)
front_on None name bytes buffer at n place room front read = tt
front_on (Some files) name bytes buffer at n place room front read =
    front_of (get files name) bytes buffer n room front (subst (λ k. IsSomeAnd (get files name) (λ file. Reads file k n buffer)) place read)

-- a read of nothing where the front ends: the front is the whole file
whole_of : (found : Option (List ℕ)) (bytes buffer : List ℕ) (n : ℕ) → n ≡ 0 → 0 < length buffer →
    IfSome found (λ file. take (length bytes) file ≡ bytes) → IsSomeAnd found (λ file. Reads file (length bytes) n buffer) → found ≡ Some bytes
whole_of None bytes buffer n none room front read = absurd read
whole_of (Some file) bytes buffer n none room front read =
    ap Some (sym (take_all (length bytes) file ((read.ends room).0 none)) ∙ front)

pub whole_file : (told : Option Files) (name bytes buffer : List ℕ) (at n : ℕ) → at ≡ length bytes → n ≡ 0 → 0 < length buffer →
    IsFront told name bytes → OfFile told name (λ file. Reads file at n buffer) → IfSome told (λ files. get files name ≡ Some bytes)
whole_file None name bytes buffer at n place none room front read = tt
whole_file (Some files) name bytes buffer at n place none room front read =
    whole_of (get files name) bytes buffer n none room front (subst (λ k. IsSomeAnd (get files name) (λ file. Reads file k n buffer)) place read)

-- a read that goes past a limit: the file is longer
longer_of : (found : Option (List ℕ)) (buffer : List ℕ) (at n limit : ℕ) → at ≤ limit → limit < at + n →
    IsSomeAnd found (λ file. Reads file at n buffer) → IsSomeAnd found (λ file. limit < length file)
longer_of None buffer at n limit within past read = read
longer_of (Some file) buffer at n limit within past read = omega (arith, read.within)

pub longer_file : (told : Option Files) (name buffer : List ℕ) (at n limit : ℕ) → at ≤ limit → limit < at + n →
    OfFile told name (λ file. Reads file at n buffer) → OfFile told name (λ file. limit < length file)
longer_file None name buffer at n limit within past read = tt
longer_file (Some files) name buffer at n limit within past read = longer_of (get files name) buffer at n limit within past read

-- a piece that there is goes on, and keeps within the limit
pub within_on : (bytes buffer : List ℕ) (at n limit : ℕ) → at ≡ length bytes → at ≤ limit → n ≤ length buffer → n ≤ limit - at →
    length (bytes ++ take n buffer) ≤ limit
within_on bytes buffer at n limit place within room fits = omega (arith, length-append bytes (take n buffer), length-take-le n buffer room)

pub smaller_on : (bytes buffer : List ℕ) (n limit : ℕ) → n ≢ 0 → n ≤ length buffer → length bytes ≤ limit →
    limit + 1 - length (bytes ++ take n buffer) < limit + 1 - length bytes
smaller_on bytes buffer n limit some room within = omega (arith, length-append bytes (take n buffer), length-take-le n buffer room)
