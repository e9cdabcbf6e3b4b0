-- What clap makes of one word, where the command has no flags and options: an argument is no flag word, and what stands for an option is
-- refused.
use Rattle.std.proofs.Common.{◌≡◌, ℕ, suc, ◌<◌, Bool, true, false, not, cond, List, [], ◌∷◌, length, drop, refl, sym, ◌∙◌, ap, subst, arith, true≢false, Option, Some, None}
use Rattle.std.specs.Prelude.{◌==◌, ◌&&◌, is_some, slice_get, encode_utf8, encode_utf8_all, option_and_then}
use Rattle.std.specs.List.{list_all}
use Rattle.std.specs.Option.{option_map_or}
use Rattle.std.specs.Str.{IsUtf8, bytes_eq, chars}
use Rattle.std.proofs.lemmas.Bool.{and_parts}
use Rattle.std.proofs.lemmas.Bool.Decides.{nat_tests}
use Rattle.std.proofs.lemmas.Str.{IsUtf8-drop, IsCharBoundary-after_ascii, chars_from_encodes}
use Rattle.clap.specs.Lexer.{name_and_value, long_of, long_of_rest, short_of, short_of_rest, strip_byte}
use Rattle.clap.specs.Walk.{Held, Rule, Text, arg_by_index, arg_by_long, arg_by_short, has_long, has_short}
use Rattle.clap.specs.Faults.{bundle_fault, bundle_step_fault, flag_word_fault, flags_fault, long_fault, short_fault}
use Rattle.clap.specs.declared.error.kind.ErrorKind.TheVariants as kind
use Rattle.command_words.specs.Arguments.{divider, is_argument}

-- the argument stands at a place, and the words behind it are read as those before it
abbrev pub is_plain : Rule → Bool
is_plain a = is_some a.index && not a.trailing_var_arg

-- ---- the arguments of the command

pub no_long : (rules : List Rule) → list_all is_plain rules ≡ true → (name : Text) → arg_by_long rules name ≡ None
no_long [] h name = refl
no_long (a ∷ rules) h name =
    let p = and_parts _ _ h in let q = and_parts _ _ p.0 in
    ap (λ b. cond (not b && has_long a name) (Some a) (arg_by_long rules name)) q.0 ∙ no_long rules p.1 name

pub no_short : (rules : List Rule) → list_all is_plain rules ≡ true → (c : ℕ) → arg_by_short rules c ≡ None
no_short [] h c = refl
no_short (a ∷ rules) h c =
    let p = and_parts _ _ h in let q = and_parts _ _ p.0 in
    ap (λ b. cond (not b && has_short a c) (Some a) (arg_by_short rules c)) q.0 ∙ no_short rules p.1 c

pub flipped : (b : Bool) → not b ≡ true → b ≡ false
flipped true h = absurd (true≢false (sym h))
flipped false h = refl

abbrev pub trails : Option Rule → Bool
trails o = option_map_or (λ a. a.trailing_var_arg) o false

pub no_trailing : (rules : List Rule) → list_all is_plain rules ≡ true → (place : ℕ) → trails (arg_by_index rules place) ≡ false
no_trailing [] h place = refl
no_trailing (a ∷ rules) h place =
    let p = and_parts _ _ h in let q = and_parts _ _ p.0 in
    elim (option_map_or (λ k. k == place) a.index false) as (λ b. trails (cond b (Some a) (arg_by_index rules place)) ≡ false) [
      | true ↦ flipped a.trailing_var_arg q.1
      | false ↦ no_trailing rules p.1 place
    ]

-- ---- an argument

pub long_none : (word : List ℕ) → is_argument word ≡ true → long_of word ≡ None
long_none [] h = refl
long_none (c ∷ []) h =
    elim (c == 45) as (λ b. option_and_then long_of_rest (option_and_then (strip_byte 45) (cond b (Some []) None)) ≡ None) [ true ↦ refl | false ↦ refl ]
long_none (c ∷ d ∷ cs) h =
    ap (λ b. option_and_then long_of_rest (option_and_then (strip_byte 45) (cond b (Some (d ∷ cs)) None))) (flipped (c == 45) h)

pub short_none : (word : List ℕ) → is_argument word ≡ true → short_of word ≡ None
short_none [] h = refl
short_none (c ∷ []) h =
    elim (c == 45) as (λ b. option_and_then short_of_rest (cond b (Some []) None) ≡ None) [ true ↦ refl | false ↦ refl ]
short_none (c ∷ d ∷ cs) h = ap (λ b. option_and_then short_of_rest (cond b (Some (d ∷ cs)) None)) (flipped (c == 45) h)

-- ---- an option

shown : (b : Bool) → not b ≡ false → b ≡ true
shown true h = refl
shown false h = absurd (true≢false h)

-- text behind an ASCII character begins with a character
first_char : (c d : ℕ) (cs : List ℕ) → c < 128 → IsUtf8 (c ∷ d ∷ cs) → (x : ℕ) × (slice_get (chars (d ∷ cs)) 0 ≡ Some x)
first_char c d cs small text =
    let rest : IsUtf8 (d ∷ cs) = IsUtf8-drop (c ∷ d ∷ cs) 1 text (IsCharBoundary-after_ascii (c ∷ d ∷ cs) 0 text (omega arith) small) in
    go rest.0 rest.1.1 (chars_from_encodes rest.0 (d ∷ cs) rest rest.1.1)
  where
    go : (xs : List ℕ) → encode_utf8_all xs ≡ d ∷ cs → xs ≡ chars (d ∷ cs) → (x : ℕ) × (slice_get (chars (d ∷ cs)) 0 ≡ Some x)
    go [] e is = let gone : [] ≡ d ∷ cs = e in cc
    go (x ∷ xs) e is = (x, ap (λ ys. slice_get ys 0) (sym is))

module _ (rules : List Rule) (plain : list_all is_plain rules ≡ true) (again : Bool) (h : Held) (skip : h.skip ≡ 0) where
  long_refused : (name : Text) (value : Option Text) → long_fault rules again (arg_by_long rules name) value h ≡ kind.UnknownArgument ∷ []
  long_refused name value = ap (λ o. long_fault rules again o value h) (no_long rules plain name)

  bundle_refused : (d : ℕ) (cs : List ℕ) → (x : ℕ) → slice_get (chars (d ∷ cs)) 0 ≡ Some x → bundle_fault rules again (d ∷ cs) h ≡ kind.UnknownArgument ∷ []
  unfolding flags_fault
  bundle_refused d cs x first =
      let clear = record h { skip = 0 } in
      ap (λ k. flags_fault rules again (suc (length cs)) (d ∷ cs) k clear) skip
      ∙ ap (λ o. bundle_step_fault rules again o (d ∷ cs) 0 clear (flags_fault rules again (length cs))) first
      ∙ ap (λ o. short_fault rules again o (drop (length (encode_utf8 x)) (d ∷ cs)) clear (flags_fault rules again (length cs) (drop (length (encode_utf8 x)) (d ∷ cs)) 0)) (no_short rules plain x)

  pub option_refused : (word : List ℕ) → is_argument word ≡ false → bytes_eq word divider ≡ false → IsUtf8 word
      → flag_word_fault rules again (long_of word) word h ≡ kind.UnknownArgument ∷ []
  option_refused [] is other text = absurd (true≢false is)
  option_refused (c ∷ []) is other text = absurd (true≢false is)
  option_refused (c ∷ d ∷ cs) is other text =
      let dash : c ≡ 45 = grind (arith, nat_tests, shown (c == 45) is) in
      subst (λ b. flag_word_fault rules again (long_of (b ∷ d ∷ cs)) (b ∷ d ∷ cs) h ≡ kind.UnknownArgument ∷ []) (sym dash)
      (go (d == 45) refl cs (subst (λ b. bytes_eq (b ∷ d ∷ cs) divider ≡ false) dash other) (subst (λ b. IsUtf8 (b ∷ d ∷ cs)) dash text))
    where
      go : (b : Bool) → (d == 45) ≡ b → (cs : List ℕ) → bytes_eq (45 ∷ d ∷ cs) divider ≡ false → IsUtf8 (45 ∷ d ∷ cs)
          → flag_word_fault rules again (long_of (45 ∷ d ∷ cs)) (45 ∷ d ∷ cs) h ≡ kind.UnknownArgument ∷ []
      go true e [] other text =
          let dash : d ≡ 45 = grind (arith, nat_tests, e) in
          let gone : true ≡ false = subst (λ b. bytes_eq (45 ∷ b ∷ []) divider ≡ false) dash other in cc
      go true e (x ∷ xs) other text =
          ap (λ b. flag_word_fault rules again (option_and_then long_of_rest (cond b (Some (x ∷ xs)) None)) (45 ∷ d ∷ x ∷ xs) h) e
          ∙ long_refused (name_and_value (x ∷ xs)).0 (name_and_value (x ∷ xs)).1
      go false e cs other text =
          let first = first_char 45 d cs (omega arith) text in
          ap (λ b. flag_word_fault rules again (option_and_then long_of_rest (cond b (Some cs) None)) (45 ∷ d ∷ cs) h) e
          ∙ ap (λ b. option_map_or (λ flags. bundle_fault rules again flags h) (cond b None (Some (d ∷ cs))) []) e
          ∙ bundle_refused d cs first.0 first.1
