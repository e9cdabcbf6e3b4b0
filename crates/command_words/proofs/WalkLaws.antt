-- How clap walks over words, where the command has positional arguments alone: as over the arguments in the words, one after another.
use Rattle.std.proofs.Common.{◌≡◌, ℕ, Bool, true, false, cond, ◌||◌, List, [], ◌∷◌, refl, sym, ◌∙◌, ap, subst, true≢false, Option, Some, None, option_map}
use Rattle.std.specs.Prelude.{⊤, ◌&&◌, fold}
use Rattle.std.specs.List.{list_all}
use Rattle.std.specs.Str.{IsUtf8, bytes_eq}
use Rattle.std.proofs.lemmas.Slice.Eq.{bytes_eq-Decides}
use Rattle.clap.specs.Lexer.{long_of}
use Rattle.clap.specs.Walk.{Held, Rule, Step, Text, Waiting, Walk, after_step, arg_by_index, idle, is_multiple, is_pending, long_or_other, next_position, option, positional, positional_held, settled, short_or_plain, takes_several, to_positional, trailing, value, walked, word_met}
use Rattle.clap.specs.Kinds.{Kinds, or_else}
use Rattle.clap.specs.Faults.{bundle_fault, flag_word_fault, step_fault, turn_fault, walk_fault, word_fault}
use Rattle.clap.specs.Simple.{Shape}
use Rattle.clap.specs.declared.error.kind.ErrorKind.TheVariants as kind
use Rattle.std.specs.Option.{option_map_or}
use Rattle.command_words.specs.Arguments.{divider, is_argument, arguments_of}
use Rattle.command_words.proofs.ArgumentsLaws.{not_divider}
use Rattle.command_words.proofs.WordLaws.{is_plain, long_none, no_trailing, option_refused, short_none, trails}

-- each word is text
abbrev pub AllText : List Text → Type 0
AllText [] = ⊤
AllText (word ∷ words) = IsUtf8 word × AllText words

-- where the walk stands between two words, but for whether a divider was met
pub record Place : Type 0 where
  pub held : Held
  pub waiting : Waiting
  pub position : ℕ

abbrev pub walk_at : Place → Bool → Walk
walk_at g t = record { held = g.held; waiting = g.waiting; position = g.position; is_trailing = t; stopped = None }

abbrev is_option : Waiting → Bool
is_option (option id) = true
is_option _ = false

-- no option waits for a value, and no bundle of flags is half read
abbrev pub IsBetween : Place → Type 0
IsBetween g = (is_option g.waiting ≡ false) × (g.held.skip ≡ 0)

abbrev held_by : List Rule → Option Rule → Text → Held → Held
held_by rules None word h = h
held_by rules (Some a) word h = positional_held rules a word h

abbrev waiting_by : Option Rule → Waiting → Waiting
waiting_by None waiting = waiting
waiting_by (Some a) waiting = cond (is_multiple a) positional idle

abbrev position_by : Option Rule → ℕ → ℕ
position_by None position = position
position_by (Some a) position = next_position a position

-- the place behind an argument
abbrev placed : List Rule → Option Rule → Place → Text → Place
placed rules a g word = record { held = held_by rules a word g.held; waiting = waiting_by a g.waiting; position = position_by a g.position }

abbrev pub next_place : List Rule → Place → Text → Place
next_place rules g word = placed rules (arg_by_index rules g.position) g word

-- why arguments are refused
abbrev pub faults : Shape → Place → List Text → Kinds
faults s g [] = []
faults s g (word ∷ words) = or_else (step_fault s g.position g.held value) (faults s (next_place s.rules g word) words)

abbrev pub last_place : List Rule → Place → List Text → Place
last_place rules g words = fold (next_place rules) g words

-- the words are walked over as these arguments, or some word is refused
abbrev pub WalksOver : Shape → Bool → Place → List Text → Option (List Text) → Type 0
WalksOver s t g words None = walk_fault s [] (walk_at g t) words ≡ [] → ⊥
WalksOver s t g words (Some arguments) = (walk_fault s [] (walk_at g t) words ≡ faults s g arguments)
    × ((fold (walked s.rules []) (walk_at g t) words).held ≡ (last_place s.rules g arguments).held)

or_same : (t b : Bool) → b ≡ false → (t || b) ≡ t
or_same true b e = refl
or_same false b e = e

-- the walk after one more argument
placed_at : (rules : List Rule) (found : Option Rule) (g : Place) (word : Text) (t : Bool) → trails found ≡ false
    → to_positional rules found word (walk_at g t) g.held ≡ walk_at (placed rules found g word) t
placed_at rules None g word t e = refl
placed_at rules (Some a) g word t e = ap (walk_at (placed rules (Some a) g word)) (or_same t a.trailing_var_arg e)

no_option : (found : Option Rule) (waiting : Waiting) → is_option waiting ≡ false → is_option (waiting_by found waiting) ≡ false
no_option None waiting h = h
no_option (Some a) waiting h = elim (is_multiple a) as (λ b. is_option (cond b positional idle) ≡ false) [ true ↦ refl | false ↦ refl ]

no_skip : (rules : List Rule) (found : Option Rule) (word : Text) (h : Held) → h.skip ≡ 0 → (held_by rules found word h).skip ≡ 0
no_skip rules None word h e = e
no_skip rules (Some a) word h e = go (is_pending a h.pending && takes_several a)
  where
    go : (b : Bool) → (cond b h (settled rules h)).skip ≡ 0
    go true = e
    go false = e

between : (rules : List Rule) (g : Place) (word : Text) → IsBetween g → IsBetween (next_place rules g word)
between rules g word h =
    (no_option (arg_by_index rules g.position) g.waiting h.0, no_skip rules (arg_by_index rules g.position) word g.held h.1)

-- ---- one word

divider_met : (rules : List Rule) (waiting : Waiting) (position : ℕ) (h : Held) → is_option waiting ≡ false
    → word_met rules [] false waiting position divider h ≡ (h, trailing position)
divider_met rules idle position h e = refl
divider_met rules positional position h e = refl
divider_met rules (option id) position h e = absurd (true≢false e)

divider_passes : (s : Shape) (waiting : Waiting) (h : Held) → is_option waiting ≡ false → word_fault s [] false waiting divider h ≡ []
divider_passes s idle h e = refl
divider_passes s positional h e = refl
divider_passes s (option id) h e = absurd (true≢false e)

-- what is met at a word that is no subcommand
abbrev other_met : List Rule → Waiting → ℕ → Text → Held → Bool → Held × Step
other_met rules waiting position word h is_divider = cond is_divider (h, trailing position) (long_or_other rules waiting word (long_of word) h)

argument_other : (rules : List Rule) (waiting : Waiting) (position : ℕ) (word : Text) (h : Held) → is_argument word ≡ true
    → other_met rules waiting position word h (bytes_eq word divider) ≡ short_or_plain rules waiting word None h
argument_other rules waiting position word h is =
    ap (other_met rules waiting position word h) (not_divider word is)
    ∙ ap (λ o. long_or_other rules waiting word o h) (long_none word is)
    ∙ ap (λ o. short_or_plain rules waiting word o h) (short_none word is)

argument_met : (rules : List Rule) (waiting : Waiting) (position : ℕ) (word : Text) (h : Held) → is_option waiting ≡ false → is_argument word ≡ true
    → word_met rules [] false waiting position word h ≡ (h, value)
argument_met rules idle position word h e is = argument_other rules idle position word h is
argument_met rules positional position word h e is = argument_other rules positional position word h is
argument_met rules (option id) position word h e is = absurd (true≢false e)

-- what is refused at a word that is no subcommand
abbrev other_refused : Shape → Text → Held → Bool → Kinds
other_refused s word h is_divider = cond is_divider [] (flag_word_fault s.rules s.args_override_self (long_of word) word h)

argument_accepted : (s : Shape) (word : Text) (h : Held) → is_argument word ≡ true → other_refused s word h (bytes_eq word divider) ≡ []
argument_accepted s word h is =
    ap (other_refused s word h) (not_divider word is)
    ∙ ap (λ o. flag_word_fault s.rules s.args_override_self o word h) (long_none word is)
    ∙ ap (λ o. option_map_or (λ flags. bundle_fault s.rules s.args_override_self flags h) o []) (short_none word is)

argument_passes : (s : Shape) (waiting : Waiting) (word : Text) (h : Held) → is_option waiting ≡ false → is_argument word ≡ true
    → word_fault s [] false waiting word h ≡ []
argument_passes s idle word h e is = argument_accepted s word h is
argument_passes s positional word h e is = argument_accepted s word h is
argument_passes s (option id) word h e is = absurd (true≢false e)

module _ (s : Shape) (plain : list_all is_plain s.rules ≡ true) where
  option_fails : (waiting : Waiting) (word : Text) (h : Held) → is_option waiting ≡ false → h.skip ≡ 0 → is_argument word ≡ false
      → bytes_eq word divider ≡ false → IsUtf8 word → word_fault s [] false waiting word h ≡ kind.UnknownArgument ∷ []
  option_fails idle word h e skip is other text =
      ap (other_refused s word h) other ∙ option_refused s.rules plain s.args_override_self h skip word is other text
  option_fails positional word h e skip is other text =
      ap (other_refused s word h) other ∙ option_refused s.rules plain s.args_override_self h skip word is other text
  option_fails (option id) word h e skip is other text = absurd (true≢false e)

  -- what a word comes to, by what was met
  turn_is : (g : Place) (word : Text) (step : Step) (refused : Kinds) → word_met s.rules [] false g.waiting g.position word g.held ≡ (g.held, step)
      → word_fault s [] false g.waiting word g.held ≡ refused
      → (turn_fault s [] (walk_at g false) word ≡ or_else refused (step_fault s g.position g.held step))
      × (walked s.rules [] (walk_at g false) word ≡ after_step s.rules word (walk_at g false) g.held step)
  unfolding walked
  turn_is g word step refused met fault = (
    λ i. or_else (fault i) (step_fault s g.position (met i).0 (met i).1),
    λ i. after_step s.rules word (walk_at g false) (met i).0 (met i).1,
  )

  -- ---- all words

  -- an argument, and then others
  one_walked : (t : Bool) (g : Place) (word : Text) (words : List Text) (read : Option (List Text))
      → turn_fault s [] (walk_at g t) word ≡ step_fault s g.position g.held value → walked s.rules [] (walk_at g t) word ≡ walk_at (next_place s.rules g word) t
      → WalksOver s t (next_place s.rules g word) words read → WalksOver s t g (word ∷ words) (option_map (λ more. word ∷ more) read)
  unfolding walk_fault
  one_walked t g word words None turn step rest = λ e.
      rest (ap (λ w. walk_fault s [] w words) (sym step)
      ∙ second (turn_fault s [] (walk_at g t) word) (walk_fault s [] (walked s.rules [] (walk_at g t) word) words) e)
    where
      second : (a b : Kinds) → or_else a b ≡ [] → b ≡ []
      second [] b e = e
      second (k ∷ ks) b e = let gone : k ∷ ks ≡ [] = e in cc
  one_walked t g word words (Some more) turn step rest = (
    (λ i. or_else (turn i) (walk_fault s [] (step i) words)) ∙ ap (or_else (step_fault s g.position g.held value)) rest.0,
    ap (λ w. (fold (walked s.rules []) w words).held) step ∙ rest.1,
  )

  -- behind the divider each word is an argument
  pub trailing_walked : (g : Place) (words : List Text) → WalksOver s true g words (Some words)
  unfolding walk_fault walked
  trailing_walked g [] = (refl, refl)
  trailing_walked g (word ∷ words) =
      one_walked true g word words (Some words) refl (placed_at s.rules (arg_by_index s.rules g.position) g word true (no_trailing s.rules plain g.position))
      (trailing_walked (next_place s.rules g word) words)

  divider_walked : (g : Place) (words : List Text) → IsBetween g → WalksOver s false g (divider ∷ words) (Some words)
  unfolding walk_fault
  divider_walked g words h =
      let turn = turn_is g divider (trailing g.position) [] (divider_met s.rules g.waiting g.position g.held h.0) (divider_passes s g.waiting g.held h.0) in
      let rest = trailing_walked g words in (
        (λ i. or_else (turn.0 i) (walk_fault s [] (turn.1 i) words)) ∙ rest.0,
        ap (λ w. (fold (walked s.rules []) w words).held) turn.1 ∙ rest.1,
      )

  option_stops : (g : Place) (word : Text) (words : List Text) → IsBetween g → is_argument word ≡ false → bytes_eq word divider ≡ false → IsUtf8 word
      → WalksOver s false g (word ∷ words) None
  unfolding walk_fault
  option_stops g word words h is other text = λ e.
      let fault = option_fails g.waiting word g.held h.0 h.1 is other text in
      let met = word_met s.rules [] false g.waiting g.position word g.held in
      let turn : turn_fault s [] (walk_at g false) word ≡ kind.UnknownArgument ∷ [] = ap (λ f. or_else f (step_fault s g.position met.0 met.1)) fault in
      let gone : kind.UnknownArgument ∷ [] ≡ [] = sym (ap (λ f. or_else f (walk_fault s [] (walked s.rules [] (walk_at g false) word) words)) turn) ∙ e in
      cc

  -- the words are walked over as their arguments
  pub words_walked : (g : Place) (words : List Text) → IsBetween g → AllText words
      → WalksOver s false g words (arguments_of words)
  unfolding walk_fault
  words_walked g [] h text = (refl, refl)
  words_walked g (word ∷ words) h text =
      go (bytes_eq word divider) refl (is_argument word) refl (words_walked (next_place s.rules g word) words (between s.rules g word h) text.1)
    where
      go : (d : Bool) → bytes_eq word divider ≡ d → (a : Bool) → is_argument word ≡ a
          → WalksOver s false (next_place s.rules g word) words (arguments_of words)
          → WalksOver s false g (word ∷ words) (cond d (Some words) (cond a (option_map (λ more. word ∷ more) (arguments_of words)) None))
      go true d a is rest =
          subst (λ w. WalksOver s false g (w ∷ words) (Some words)) (sym ((bytes_eq-Decides word divider).0 d)) (divider_walked g words h)
      go false d true is rest =
          let turn = turn_is g word value [] (argument_met s.rules g.waiting g.position word g.held h.0 is) (argument_passes s g.waiting word g.held h.0 is) in
          one_walked false g word words (arguments_of words) turn.0
          (turn.1 ∙ placed_at s.rules (arg_by_index s.rules g.position) g word false (no_trailing s.rules plain g.position))
          rest
      go false d false is rest = option_stops g word words h is d text.0
