-- A search for a name from the first file on.
use Rattle.std.proofs.Common.{◌≡◌, ℕ, Bool, suc, ◌+◌, ◌<◌, ◌≤◌, List, ◌∷◌, length, drop, get_or, cond, true, false, sym, ap, ◌∙◌, add-one, drop-cons}
use Rattle.std.specs.Prelude.{None, Some, nat_eq, encode_utf8_all}
use Rattle.std.specs.Ordering.{nat_cmp}
use Rattle.std.specs.Cmp.Lexicographic.{slice_cmp, pointwise, texts_ties, nat_list_cmp_total}
use Rattle.std.specs.FinMap.{get, get-insert, get-empty}
use Rattle.std.proofs.lemmas.List.{drop_all}
use Rattle.vault_io.specs.declared.named_file.NamedFile.{NamedFile}
use Rattle.vault_io.specs.Stores.{first_files}

-- the name that is sought is that of a file
abbrev pub HasName : NamedFile → List ℕ → Bool → Type 0
HasName file name same = pointwise nat_eq name (encode_utf8_all file.name) ≡ same

-- a file in front of others counts where the name is its own
in_front : (file : NamedFile) (files : List NamedFile) (name : List ℕ) (same : Bool) → HasName file name same →
    get (first_files (file ∷ files)) name ≡ cond same (Some file.bytes) (get (first_files files) name)
in_front file files name same e =
    get-insert nat_list_cmp_total (first_files files) (encode_utf8_all file.name) file.bytes name
    ∙ ap (λ b. cond b (Some file.bytes) (get (first_files files) name)) (sym (texts_ties name (encode_utf8_all file.name)) ∙ e)

-- the file at a place, in front of those after it
at_place : (file : NamedFile) (files : List NamedFile) (name : List ℕ) (place : ℕ) (same : Bool) →
    place < length files → file ≡ get_or files place file → HasName file name same →
    get (first_files (drop place files)) name ≡ cond same (Some file.bytes) (get (first_files (drop (place + 1) files)) name)
at_place file files name place same within is e =
    ap (λ rest. get (first_files rest) name)
    (drop-cons files place file within
    ∙ ap (λ f. f ∷ drop (suc place) files) (sym is)
    ∙ ap (λ k. file ∷ drop k files) (sym (add-one place)))
    ∙ in_front file (drop (place + 1) files) name same e

pub found_at : (file : NamedFile) (files : List NamedFile) (name : List ℕ) (place : ℕ) →
    place < length files → file ≡ get_or files place file → HasName file name true →
    get (first_files (drop place files)) name ≡ Some file.bytes
found_at file files name place within is e = at_place file files name place true within is e

pub passed_at : (file : NamedFile) (files : List NamedFile) (name : List ℕ) (place : ℕ) →
    place < length files → file ≡ get_or files place file → HasName file name false →
    get (first_files (drop place files)) name ≡ get (first_files (drop (place + 1) files)) name
passed_at file files name place within is e = at_place file files name place false within is e

-- past the last file there is none
pub none_left : (files : List NamedFile) (name : List ℕ) (place : ℕ) →
    length files ≤ place → get (first_files (drop place files)) name ≡ None
none_left files name place past =
    ap (λ rest. get (first_files rest) name) (drop_all place files past) ∙ get-empty (slice_cmp nat_cmp) name
