-- What a writer writes of characters: pieces of an element that say them, and parts of an attribute's value that spell it.
use Rattle.std.proofs.Common.{◌≡◌, ℕ, zero, suc, ◌*◌, ◌⊎◌, Bool, true, false, List, [], ◌∷◌, ◌++◌, map, refl, sym, ◌∙◌, ap, ap₂, subst, inl, inr, append_assoc}
use Rattle.std.specs.Prelude.{◌==◌, ◌||◌, ◌&&◌, not, replicate}
use Rattle.std.specs.List.{list_all}
use Rattle.std.proofs.lemmas.Bool.{cases_eq, and_parts, and_from, not_from_false, and_right}
use lib.Utf8.{scalars}
use Rattle.mof_metamodel.specs.Characters.{is_storable_character, is_storable_text}
use Rattle.xmi_text.specs.Trees.{Event}
use Rattle.xmi_text.specs.Writing.{escaped, escaped_character, line_end}
use Rattle.xmi_text.specs.Markup.{Reference, Amp, Lt, Gt, Quot, Apos, Decimal, reference_text, referred, is_reference, ValuePart, Literal, Named, is_literal, is_part, is_value_character, value_text, value_of, Piece, Characters, Referred, is_content_character, is_characters, are_apart, Closing, texts, all_said, say, joined_runs, line_ends, spaced}
use Rattle.xmi_text.proofs.forward.Encoded.{if_false}
use Rattle.xmi_text.proofs.forward.Stepping.{other}
use Rattle.xmi_text.proofs.forward.Placed.{say_none, say_say}

-- ## characters

pub record Escaped (c : ℕ) : Type 0 where
  pub reference : Reference
  pub text : escaped_character c ≡ reference_text reference
  pub stands : referred reference ≡ c
  pub fine : is_reference reference ≡ true
  pub characters : scalars (escaped_character c) ≡ true

pub record Raw (c : ℕ) : Type 0 where
  pub text : escaped_character c ≡ c ∷ []
  pub ampersand : (c == 38) ≡ false
  pub less : (c == 60) ≡ false
  pub quote : (c == 34) ≡ false
  pub tab : (c == 9) ≡ false
  pub feed : (c == 10) ≡ false
  pub return : (c == 13) ≡ false

escaped_at : (c d : ℕ) → c ≡ d → Escaped d → Escaped c
escaped_at c d e x = subst Escaped (sym e) x

pub spelling : (c : ℕ) → Escaped c ⊎ Raw c
spelling c = elim (cases_eq c 38) [
  | inl e ↦ inl (escaped_at c 38 e (record { reference = Amp; text = refl; stands = refl; fine = refl; characters = refl }))
  | inr a ↦ elim (cases_eq c 60) [
    | inl e ↦ inl (escaped_at c 60 e (record { reference = Lt; text = refl; stands = refl; fine = refl; characters = refl }))
    | inr l ↦ elim (cases_eq c 62) [
      | inl e ↦ inl (escaped_at c 62 e (record { reference = Gt; text = refl; stands = refl; fine = refl; characters = refl }))
      | inr g ↦ elim (cases_eq c 34) [
        | inl e ↦ inl (escaped_at c 34 e (record { reference = Quot; text = refl; stands = refl; fine = refl; characters = refl }))
        | inr q ↦ elim (cases_eq c 39) [
          | inl e ↦ inl (escaped_at c 39 e (record { reference = Apos; text = refl; stands = refl; fine = refl; characters = refl }))
          | inr p ↦ elim (cases_eq c 9) [
            | inl e ↦ inl (escaped_at c 9 e (record { reference = Decimal (57 ∷ []); text = refl; stands = refl; fine = refl; characters = refl }))
            | inr t ↦ elim (cases_eq c 10) [
              | inl e ↦ inl (escaped_at c 10 e (record { reference = Decimal (49 ∷ 48 ∷ []); text = refl; stands = refl; fine = refl; characters = refl }))
              | inr f ↦ elim (cases_eq c 13) [
                | inl e ↦ inl (escaped_at c 13 e (record { reference = Decimal (49 ∷ 51 ∷ []); text = refl; stands = refl; fine = refl; characters = refl }))
                | inr r ↦ inr (record {
                  text = if_false (c == 38) _ _ (other c 38 a) ∙ if_false (c == 60) _ _ (other c 60 l) ∙ if_false (c == 62) _ _ (other c 62 g) ∙ if_false (c == 34) _ _ (other c 34 q)
                      ∙ if_false (c == 39) _ _ (other c 39 p) ∙ if_false (c == 9) _ _ (other c 9 t) ∙ if_false (c == 10) _ _ (other c 10 f) ∙ if_false (c == 13) _ _ (other c 13 r);
                  ampersand = other c 38 a;
                  less = other c 60 l;
                  quote = other c 34 q;
                  tab = other c 9 t;
                  feed = other c 10 f;
                  return = other c 13 r;
                })
              ]
            ]
          ]
        ]
      ]
    ]
  ]
]

-- ## character data

-- pieces in open elements, what they are written as and what they say
pub record Content (names : List (List ℕ)) (written : List ℕ) (es : List Event) : Type 0 where
  pub pieces : List Piece
  pub text : texts pieces ≡ written
  pub closing : Closing names pieces
  pub runs : are_apart is_characters pieces ≡ true
  pub said : joined_runs (all_said pieces) ≡ es

raw_content : (c : ℕ) → Raw c → is_storable_character c ≡ true → is_content_character c ≡ true
raw_content c w e = and_from (is_storable_character c) (not (c == 60) && not (c == 38)) e (and_from (not (c == 60)) (not (c == 38)) (not_from_false (c == 60) w.less) (not_from_false (c == 38) w.ampersand))

raw_ends : (c : ℕ) (cs : List ℕ) → Raw c → line_ends false (c ∷ cs) ≡ c ∷ line_ends false cs
raw_ends c cs w = if_false (c == 13) _ _ w.return ∙ if_false ((c == 10) && false) _ _ (and_right (c == 10) false refl)

add_reference : (n : List ℕ) (names : List (List ℕ)) (text : List ℕ) (es : List Event) (c : ℕ) → Escaped c → Content (n ∷ names) text es → Content (n ∷ names) (escaped_character c ++ text) (say (c ∷ []) es)
add_reference n names text es c x k = record {
  pieces = Referred x.reference ∷ k.pieces;
  text = ap₂ (λ (a b : List ℕ). a ++ b) (sym x.text) k.text;
  closing = (x.fine, tt, k.closing);
  runs = k.runs;
  said = ap₂ (λ (d : ℕ) (b : List Event). say (d ∷ []) b) x.stands k.said;
}

-- a character is read as it is
abbrev Stays : ℕ → Type 0
Stays c = (cs : List ℕ) → line_ends false (c ∷ cs) ≡ c ∷ line_ends false cs

-- it joins the run that it stands before
raw_joins : (n : List ℕ) (names : List (List ℕ)) (c : ℕ) (pieces : List Piece) → Stays c → is_content_character c ≡ true → Closing (n ∷ names) pieces → are_apart is_characters pieces ≡ true → Content (n ∷ names) (c ∷ texts pieces) (say (c ∷ []) (joined_runs (all_said pieces)))
raw_joins n names c (Characters cs ∷ pieces) w e k a = record {
  pieces = Characters (c ∷ cs) ∷ pieces;
  text = refl;
  closing = (and_from (is_content_character c) (list_all is_content_character cs) e k.0, tt, k.2);
  runs = a;
  said = ap (λ x. say x (joined_runs (all_said pieces))) (w cs) ∙ sym (say_say (c ∷ []) (line_ends false cs) (joined_runs (all_said pieces)));
}
raw_joins n names c [] w e k a = absurd k
raw_joins n names c (p ∷ pieces) w e k a = record {
  pieces = Characters (c ∷ []) ∷ p ∷ pieces;
  text = refl;
  closing = (and_from (is_content_character c) true e refl, tt, k);
  runs = a;
  said = ap (λ x. say x (joined_runs (all_said (p ∷ pieces)))) (w []);
}

add_as_it_is : (n : List ℕ) (names : List (List ℕ)) (text : List ℕ) (es : List Event) (c : ℕ) → Stays c → is_content_character c ≡ true → Content (n ∷ names) text es → Content (n ∷ names) (c ∷ text) (say (c ∷ []) es)
add_as_it_is n names text es c w e k =
    let j = raw_joins n names c k.pieces w e k.closing k.runs in
    record {
      pieces = j.pieces;
      text = j.text ∙ ap (λ x. c ∷ x) k.text;
      closing = j.closing;
      runs = j.runs;
      said = j.said ∙ ap (say (c ∷ [])) k.said;
    }

add_raw : (n : List ℕ) (names : List (List ℕ)) (text : List ℕ) (es : List Event) (c : ℕ) → Raw c → is_storable_character c ≡ true → Content (n ∷ names) text es → Content (n ∷ names) (escaped_character c ++ text) (say (c ∷ []) es)
add_raw n names text es c w e k =
    let j = add_as_it_is n names text es c (λ cs. raw_ends c cs w) (raw_content c w e) k in
    record { pieces = j.pieces; text = j.text ∙ ap (λ x. x ++ text) (sym w.text); closing = j.closing; runs = j.runs; said = j.said }

-- a line's end, its blanks as they are
lay_spaces : (n : List ℕ) (names : List (List ℕ)) (text : List ℕ) (es : List Event) (count : ℕ) → Content (n ∷ names) text es → Content (n ∷ names) (replicate count 32 ++ text) (say (replicate count 32) es)
lay_spaces n names text es zero k = record { pieces = k.pieces; text = k.text; closing = k.closing; runs = k.runs; said = k.said ∙ sym (say_none es) }
lay_spaces n names text es (suc count) k =
    let one = add_as_it_is n names (replicate count 32 ++ text) (say (replicate count 32) es) 32 (λ cs. refl) refl (lay_spaces n names text es count k) in
    record { pieces = one.pieces; text = one.text; closing = one.closing; runs = one.runs; said = one.said ∙ say_say (32 ∷ []) (replicate count 32) es }

pub lay_line : (n : List ℕ) (names : List (List ℕ)) (text : List ℕ) (es : List Event) (depth : ℕ) → Content (n ∷ names) text es → Content (n ∷ names) (line_end depth ++ text) (say (line_end depth) es)
lay_line n names text es depth k =
    let spaces : List ℕ = replicate (2 * depth) 32 in
    let one = add_as_it_is n names (spaces ++ text) (say spaces es) 10 (λ cs. refl) refl (lay_spaces n names text es (2 * depth) k) in
    record { pieces = one.pieces; text = one.text; closing = one.closing; runs = one.runs; said = one.said ∙ say_say (10 ∷ []) spaces es }

-- a text, its characters escaped
pub spell : (n : List ℕ) (names : List (List ℕ)) (text : List ℕ) (es : List Event) (cs : List ℕ) → is_storable_text cs ≡ true → Content (n ∷ names) text es → Content (n ∷ names) (escaped cs ++ text) (say cs es)
spell n names text es [] e k = record { pieces = k.pieces; text = k.text; closing = k.closing; runs = k.runs; said = k.said ∙ sym (say_none es) }
spell n names text es (c ∷ cs) e k =
    let p = and_parts (is_storable_character c) (is_storable_text cs) e in
    let rest = spell n names text es cs p.1 k in
    let one : Content (n ∷ names) (escaped_character c ++ (escaped cs ++ text)) (say (c ∷ []) (say cs es)) = elim (spelling c) [
      | inl x ↦ add_reference n names (escaped cs ++ text) (say cs es) c x rest
      | inr w ↦ add_raw n names (escaped cs ++ text) (say cs es) c w p.0 rest
    ] in
    record {
      pieces = one.pieces;
      text = one.text ∙ sym (append_assoc (escaped_character c) (escaped cs) text);
      closing = one.closing;
      runs = one.runs;
      said = one.said ∙ say_say (c ∷ []) cs es;
    }

-- ## values

pub record Value (cs : List ℕ) : Type 0 where
  pub parts : List ValuePart
  pub text : value_text parts ≡ escaped cs
  pub value : value_of parts ≡ cs
  pub fine : list_all (is_part 34) parts ≡ true
  pub runs : are_apart is_literal parts ≡ true

raw_value : (c : ℕ) → Raw c → is_storable_character c ≡ true → is_value_character 34 c ≡ true
raw_value c w e =
    and_from (is_storable_character c) (not (c == 60) && (not (c == 38) && not (c == 34))) e
    (and_from (not (c == 60)) (not (c == 38) && not (c == 34)) (not_from_false (c == 60) w.less)
    (and_from (not (c == 38)) (not (c == 34)) (not_from_false (c == 38) w.ampersand) (not_from_false (c == 34) w.quote)))

raw_spaced : (c : ℕ) (cs : List ℕ) → Raw c → map spaced (line_ends false (c ∷ cs)) ≡ c ∷ map spaced (line_ends false cs)
raw_spaced c cs w =
    ap (map spaced) (raw_ends c cs w)
    ∙ ap (λ x. x ∷ map spaced (line_ends false cs)) (if_false ((c == 10) || (c == 9)) 32 c (ap₂ (λ (a b : Bool). a || b) w.feed w.tab))

-- a character joins the literal that it stands before
literal_joins : (c : ℕ) (parts : List ValuePart) → Raw c → is_value_character 34 c ≡ true → list_all (is_part 34) parts ≡ true → are_apart is_literal parts ≡ true → (more : List ValuePart) × (value_text more ≡ c ∷ value_text parts) × (value_of more ≡ c ∷ value_of parts) × (list_all (is_part 34) more ≡ true) × (are_apart is_literal more ≡ true)
literal_joins c [] w e k a = (Literal (c ∷ []) ∷ [], refl, ap (λ x. x ++ []) (raw_spaced c [] w), and_from (list_all (is_value_character 34) (c ∷ [])) true (and_from (is_value_character 34 c) true e refl) refl, refl)
literal_joins c (Named reference ∷ parts) w e k a = (
  Literal (c ∷ []) ∷ Named reference ∷ parts,
  refl,
  ap (λ x. x ++ value_of (Named reference ∷ parts)) (raw_spaced c [] w),
  and_from (list_all (is_value_character 34) (c ∷ [])) (list_all (is_part 34) (Named reference ∷ parts)) (and_from (is_value_character 34 c) true e refl) k,
  a,
)
literal_joins c (Literal cs ∷ parts) w e k a =
    let p = and_parts (list_all (is_value_character 34) cs) (list_all (is_part 34) parts) k in (
      Literal (c ∷ cs) ∷ parts,
      refl,
      ap (λ x. x ++ value_of parts) (raw_spaced c cs w),
      and_from (list_all (is_value_character 34) (c ∷ cs)) (list_all (is_part 34) parts) (and_from (is_value_character 34 c) (list_all (is_value_character 34) cs) e p.0) p.1,
      a,
    )

pub spell_value : (cs : List ℕ) → is_storable_text cs ≡ true → Value cs
spell_value [] e = record { parts = []; text = refl; value = refl; fine = refl; runs = refl }
spell_value (c ∷ cs) e =
    let p = and_parts (is_storable_character c) (is_storable_text cs) e in
    let v = spell_value cs p.1 in
    elim (spelling c) [
      | inl x ↦ record {
        parts = Named x.reference ∷ v.parts;
        text = ap₂ (λ (a b : List ℕ). a ++ b) (sym x.text) v.text;
        value = ap₂ (λ (d : ℕ) (b : List ℕ). d ∷ b) x.stands v.value;
        fine = and_from (is_reference x.reference) (list_all (is_part 34) v.parts) x.fine v.fine;
        runs = v.runs;
      }
      | inr w ↦
          let j = literal_joins c v.parts w (raw_value c w p.0) v.fine v.runs in
          record {
            parts = j.0;
            text = j.1 ∙ ap (λ x. c ∷ x) v.text ∙ ap (λ x. x ++ escaped cs) (sym w.text);
            value = j.2 ∙ ap (λ x. c ∷ x) v.value;
            fine = j.3;
            runs = j.4;
          }
    ]
