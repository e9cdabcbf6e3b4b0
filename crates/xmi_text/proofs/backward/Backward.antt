-- What the bytes behind a state are, where they make the text whole.
use Rattle.std.proofs.Common.{◌≡◌, ℕ, ◌+◌, ◌-◌, ◌*◌, ◌/◌, ◌%◌, ◌≤◌, ◌<◌, Bool, true, false, cond, List, [], ◌∷◌, ◌++◌, take, drop, refl, sym, ◌∙◌, ap, subst, arith, Option, Some, None, inl, inr, true≢false, codes}
use Rattle.std.proofs.lemmas.Bool.{and_parts, and_from, or_left, or_right, eqb-true, cases_Bool, le-leb, not_from_false, ne_eqb}
use Rattle.std.specs.Prelude.{◌==◌, ◌||◌, ◌&&◌, not, nat_le}
use Rattle.std.specs.List.{list_all}
use lib.Utf8.{encode, encodes, scalar, scalars}
use Rattle.mof_metamodel.specs.Characters.{is_blank, is_storable_character}
use Rattle.xmi_text.specs.ByteClass as bytes
use Rattle.xmi_text.specs.ByteClass.{within}
use Rattle.xmi_text.specs.UtfEight as utf
use Rattle.xmi_text.specs.States as states
use Rattle.xmi_text.specs.States.{go, fail, is_inside, around, cleared, cleared_by}
use Rattle.xmi_text.specs.Steps as steps
use Rattle.xmi_text.specs.Automaton as automaton
use Rattle.xmi_text.specs.Automaton.{step, step_by}
use Rattle.xmi_text.specs.Markup as markup
use Rattle.xmi_text.specs.Markup.{piece_text}
use Rattle.xmi_text.specs.declared.mark.Attr.{Attr}
use Rattle.xmi_text.specs.declared.error.TextKind.{TextKind}
use Rattle.xmi_text.specs.declared.error.TextKind.TheVariants as kinds
use Rattle.xmi_text.specs.declared.reference.Reference.{Reference}
use Rattle.xmi_text.specs.declared.reference.Reference.TheVariants as ref
use Rattle.xmi_text.specs.declared.utf_eight.Partial.{Partial}
use Rattle.xmi_text.specs.declared.utf_eight.Rest.{Rest}
use Rattle.xmi_text.specs.declared.utf_eight.Rest.TheVariants as rests
use Rattle.xmi_text.specs.declared.state.State.{State}
use Rattle.xmi_text.specs.declared.state.Mode.{Mode}
use Rattle.xmi_text.specs.declared.state.Mode.TheVariants as modes
use Rattle.xmi_text.specs.declared.state.Within.{Within}
use Rattle.xmi_text.specs.declared.state.Within.TheVariants as places
use Rattle.xmi_text.specs.declared.state.Ready.TheVariants as ready
use Rattle.xmi_text.proofs.completion.Sound.{within_range}
use Rattle.xmi_text.proofs.forward.Encoded.{encode_two, encode_three, encode_four}
use Rattle.xmi_text.proofs.forward.Spelled.{stacked}
use Rattle.xmi_text.proofs.backward.Parsing.{Spelt, spelt_low, Content, Fit, with_piece, with_character, Aside, Tail, Quoted, Valued, Equals, Naming, Titled}

-- ---- the bytes of a character

-- the bytes that a character still has
abbrev pub Fills : Rest → ℕ → List ℕ → ℕ → Type 0
Fills (rests.One bits) low more c = (more ≡ (128 + c % 64) ∷ []) × (c / 64 ≡ bits)
Fills (rests.Two bits) low more c = (more ≡ (128 + c / 64 % 64) ∷ (128 + c % 64) ∷ []) × (c / 4096 ≡ bits) × (low ≤ 128 + c / 64 % 64)
Fills (rests.Three bits) low more c = (more ≡ (128 + c / 4096 % 64) ∷ (128 + c / 64 % 64) ∷ (128 + c % 64) ∷ []) × (c / 262144 ≡ bits) × (low ≤ 128 + c / 4096 % 64)

pub fills_one : (bits low b c : ℕ) → 128 ≤ b → b ≤ 191 → c ≡ bits * 64 + b % 64 → Fills (rests.One bits) low (b ∷ []) c
fills_one bits low b c l u e =
    let m : b % 64 ≡ b - 128 = omega arith in
    let same : b ≡ 128 + c % 64 = omega arith in
    (ap (λ x. x ∷ []) same, omega arith)

pub fills_two : (bits low b : ℕ) (more : List ℕ) (c : ℕ) → 128 ≤ b → b ≤ 191 → low ≤ b → Fills (rests.One (bits * 64 + b % 64)) 128 more c → Fills (rests.Two bits) low (b ∷ more) c
fills_two bits low b more c l u h f =
    let m : b % 64 ≡ b - 128 = omega arith in
    let q = f.1 in
    let same : b ≡ 128 + c / 64 % 64 = omega (arith, q) in
    (ap (λ xs. b ∷ xs) f.0 ∙ ap (λ x. x ∷ (128 + c % 64) ∷ []) same, omega (arith, q), omega (arith, same))

pub fills_three : (bits low b : ℕ) (more : List ℕ) (c : ℕ) → 128 ≤ b → b ≤ 191 → low ≤ b → Fills (rests.Two (bits * 64 + b % 64)) 128 more c → Fills (rests.Three bits) low (b ∷ more) c
fills_three bits low b more c l u h f =
    let m : b % 64 ≡ b - 128 = omega arith in
    let q = f.1 in
    let same : b ≡ 128 + c / 4096 % 64 = omega (arith, q) in
    (ap (λ xs. b ∷ xs) f.0 ∙ ap (λ x. x ∷ (128 + c / 64 % 64) ∷ (128 + c % 64) ∷ []) same, omega (arith, q), omega (arith, same))

-- a first byte and the bytes behind it are a character's
abbrev pub Leads : ℕ → Option Partial → Type 0
Leads b None = Unit {0}
Leads b (Some p) = (more : List ℕ) (c : ℕ) → Fills p.rest p.low more c → c < 0x110000 → (b ∷ more ≡ encode c) × (128 ≤ c)

leads : (b : ℕ) (x : Bool) (o q : Option Partial) → (x ≡ true → Leads b o) → (x ≡ false → Leads b q) → Leads b (cond x o q)
leads b true o q f g = f refl
leads b false o q f g = g refl

lead_three : (b c : ℕ) (more : List ℕ) → more ≡ (128 + c / 64 % 64) ∷ (128 + c % 64) ∷ [] → b ≡ 224 + c / 4096 → 2048 ≤ c → c < 65536 → (b ∷ more ≡ encode c) × (128 ≤ c)
lead_three b c more e h l u = (ap (λ x. x ∷ more) h ∙ ap (λ xs. (224 + c / 4096) ∷ xs) e ∙ sym (encode_three c l u), omega arith)

lead_four : (b c : ℕ) (more : List ℕ) → more ≡ (128 + c / 4096 % 64) ∷ (128 + c / 64 % 64) ∷ (128 + c % 64) ∷ [] → b ≡ 240 + c / 262144 → 65536 ≤ c → (b ∷ more ≡ encode c) × (128 ≤ c)
lead_four b c more e h l = (ap (λ x. x ∷ more) h ∙ ap (λ xs. (240 + c / 262144) ∷ xs) e ∙ sym (encode_four c l), omega arith)

pub begun_leads : (at b : ℕ) → Leads b (utf.begun at b)
begun_leads at b =
    leads b (within 0xc2 0xdf b) _ _
    (λ e more c f u. let r = within_range 0xc2 0xdf b e in let q = f.1 in
    let same : b ≡ 192 + c / 64 = omega (arith, r.0, r.1, q) in
    let l : 128 ≤ c = omega (arith, r.0, q) in
    (ap (λ x. x ∷ more) same ∙ ap (λ xs. (192 + c / 64) ∷ xs) f.0 ∙ sym (encode_two c l (omega (arith, r.1, q))), l))
    (λ _. leads b (b == 0xe0) _ _
    (λ e more c f u. let q = f.1 in let l = f.2 in let v = eqb-true b 0xe0 e in lead_three b c more f.0 (omega (arith, q, v)) (omega (arith, q, l)) (omega (arith, q)))
    (λ _. leads b (b == 0xed) _ _
    (λ e more c f u. let q = f.1 in let v = eqb-true b 0xed e in lead_three b c more f.0 (omega (arith, q, v)) (omega (arith, q)) (omega (arith, q)))
    (λ _. leads b (within 0xe1 0xef b) _ _
    (λ e more c f u. let r = within_range 0xe1 0xef b e in let q = f.1 in lead_three b c more f.0 (omega (arith, q, r.0, r.1)) (omega (arith, q, r.0, r.1)) (omega (arith, q, r.0, r.1)))
    (λ _. leads b (b == 0xf0) _ _
    (λ e more c f u. let q = f.1 in let l = f.2 in let v = eqb-true b 0xf0 e in lead_four b c more f.0 (omega (arith, q, v)) (omega (arith, q, l)))
    (λ _. leads b (within 0xf1 0xf3 b) _ _
    (λ e more c f u. let r = within_range 0xf1 0xf3 b e in let q = f.1 in lead_four b c more f.0 (omega (arith, q, r.0, r.1)) (omega (arith, q, r.0, r.1)))
    (λ _. leads b (b == 0xf4) _ _
    (λ e more c f u. let q = f.1 in let v = eqb-true b 0xf4 e in lead_four b c more f.0 (omega (arith, q, v)) (omega (arith, q)))
    (λ _. tt)))))))

-- ---- what stands behind each place

abbrev pub in_mode : State → Mode → State
in_mode s m = record s { mode = m; partial = None; ready = ready.Nothing }

abbrev pub in_character : State → Mode → Partial → State
in_character s m p = record s { mode = m; partial = Some p; ready = ready.Nothing }

abbrev pub seen : List Attr → List (List ℕ)
seen [] = []
seen (a ∷ attrs) = a.name ∷ seen attrs

-- a byte order mark or none, and content
pub record Opening (rooted : Bool) (names : List (List ℕ)) (cs : List ℕ) : Type 0 where
  pub marked : Bool
  pub rest : List ℕ
  pub is : cs ≡ markup.order_mark marked ++ rest
  pub more : Content rooted names rest

-- the rest of an instruction
pub record Targeted (colon rooted : Bool) (names : List (List ℕ)) (cs : List ℕ) : Type 0 where
  pub letters : List ℕ
  pub text : List ℕ
  pub rest : List ℕ
  pub is : cs ≡ letters ++ (text ++ (codes "?>" ++ rest))
  pub goes : Rattle.xmi_text.specs.Names.goes_on colon letters ≡ true
  pub longest : markup.starts markup.is_name_character text ≡ false
  pub up_to : markup.IsUpTo (codes "?>") text
  pub more : Content rooted names rest

-- the rest of an end tag behind its name
pub record Ended (rooted : Bool) (names : List (List ℕ)) (cs : List ℕ) : Type 0 where
  pub blanks : List ℕ
  pub rest : List ℕ
  pub is : cs ≡ blanks ++ 62 ∷ rest
  pub blank : list_all is_blank blanks ≡ true
  pub more : Content rooted (markup.outer names) rest

pub record Slashed (names : List (List ℕ)) (cs : List ℕ) : Type 0 where
  pub rest : List ℕ
  pub is : cs ≡ 62 ∷ rest
  pub more : Content true names rest

-- the rest of a reference
abbrev pub begun_text : Reference → List ℕ
begun_text ref.Begun = codes "&"
begun_text ref.A = codes "&a"
begun_text ref.Am = codes "&am"
begun_text ref.Amp = codes "&amp"
begun_text ref.Ap = codes "&ap"
begun_text ref.Apo = codes "&apo"
begun_text ref.Apos = codes "&apos"
begun_text ref.L = codes "&l"
begun_text ref.Lt = codes "&lt"
begun_text ref.G = codes "&g"
begun_text ref.Gt = codes "&gt"
begun_text ref.Q = codes "&q"
begun_text ref.Qu = codes "&qu"
begun_text ref.Quo = codes "&quo"
begun_text ref.Quot = codes "&quot"
begun_text ref.Hash = codes "&#"
begun_text ref.Hexadecimal = codes "&#x"
begun_text _ = []

-- the last digits of a number, and a `;`
pub record Numbered (is_one : ℕ → Bool) (base n : ℕ) (more : List ℕ) : Type 0 where
  pub digits : List ℕ
  pub is : more ≡ digits ++ 59 ∷ []
  pub all : list_all is_one digits ≡ true
  pub good : (scalars (markup.number base n digits ∷ []) && is_storable_character (markup.number base n digits)) ≡ true

abbrev pub Finishes : Reference → List ℕ → Type 0
Finishes (ref.Decimal n) more = Numbered markup.is_digit 10 n more
Finishes (ref.Digits n) more = Numbered markup.is_hexadecimal_digit 16 n more
Finishes part more = (reference : markup.Reference) × (markup.reference_text reference ≡ begun_text part ++ more) × (markup.is_reference reference ≡ true)

abbrev pub Behind : State → List (List ℕ) → Within → List ℕ → Type 0
Behind s names places.Content cs = Content s.rooted names cs
Behind s names (places.Value q) cs = Quoted names s.tag (seen s.attrs ++ s.attr.name ∷ []) (steps.quote_byte q) cs

pub record Referring (P : List ℕ → Type 0) (part : Reference) (cs : List ℕ) : Type 0 where
  pub more : List ℕ
  pub rest : List ℕ
  pub is : cs ≡ more ++ rest
  pub finishes : Finishes part more
  pub behind : P rest

-- the characters behind a place
abbrev pub After : State → List (List ℕ) → Mode → List ℕ → Type 0
After s names modes.Start cs = Opening s.rooted names cs
After s names modes.Outside cs = Content s.rooted names cs
After s names modes.Inside cs = Content s.rooted names cs
After s names (modes.Less at) cs = Content s.rooted names (60 ∷ cs)
After s names (modes.Bang at) cs = Content s.rooted names (60 ∷ 33 ∷ cs)
After s names modes.Dash cs = Content s.rooted names (60 ∷ 33 ∷ 45 ∷ cs)
After s names modes.Comment cs = Aside (codes "-->") s.rooted names cs
After s names modes.CommentDash cs = Aside (codes "-->") s.rooted names (45 ∷ cs)
After s names modes.CommentDashes cs = Aside (codes "-->") s.rooted names (45 ∷ 45 ∷ cs)
After s names (modes.Doctype less word_at matched) cs = ⊥
After s names (modes.CdataStart matched) cs = Content s.rooted names (60 ∷ 33 ∷ (take matched (codes "[CDATA[") ++ cs))
After s names (modes.Cdata held) cs = Aside (codes "]]>") s.rooted names (states.brackets held ++ cs)
After s names modes.Question cs = Content s.rooted names (60 ∷ 63 ∷ cs)
After s names (modes.Target colon) cs = Targeted colon s.rooted names cs
After s names modes.Instruction cs = Aside (codes "?>") s.rooted names cs
After s names modes.InstructionQuestion cs = Aside (codes "?>") s.rooted names (63 ∷ cs)
After s names (modes.TagName colon) cs = Titled colon names s.tag (seen s.attrs) cs
After s names modes.Tag cs = (b : ℕ) → is_blank b ≡ true → Tail names s.tag (seen s.attrs) (b ∷ cs)
After s names (modes.AttrName colon) cs = Naming colon names s.tag (seen s.attrs) s.attr.name cs
After s names modes.AfterName cs = Equals names s.tag (seen s.attrs ++ s.attr.name ∷ []) cs
After s names modes.BeforeValue cs = Valued names s.tag (seen s.attrs ++ s.attr.name ∷ []) cs
After s names (modes.Value q) cs = Quoted names s.tag (seen s.attrs ++ s.attr.name ∷ []) (steps.quote_byte q) cs
After s names modes.AfterValue cs = Tail names s.tag (seen s.attrs) cs
After s names modes.Slash cs = Slashed names cs
After s names (modes.EndName less matched) cs = ⊥
After s names (modes.EndTail less) cs = Ended s.rooted names cs
After s names (modes.Reference amp place part) cs = Referring (Behind s names place) part cs
After s names (modes.Failed f) cs = ⊥

-- the bytes of such characters
pub record Read (P : List ℕ → Type 0) (bs : List ℕ) : Type 0 where
  pub cs : List ℕ
  pub spelt : Spelt bs cs
  pub are : P cs

-- in the name of an end tag
pub record EndRead (rooted : Bool) (names : List (List ℕ)) (name : List ℕ) (bs : List ℕ) : Type 0 where
  pub rest : List ℕ
  pub is : bs ≡ name ++ rest
  pub more : Read (Ended rooted names) rest

-- in a character
pub record CutRead (P : List ℕ → Type 0) (low : ℕ) (r : Rest) (bs : List ℕ) : Type 0 where
  pub more : List ℕ
  pub c : ℕ
  pub rest : List ℕ
  pub is : bs ≡ more ++ rest
  pub fills : Fills r low more c
  pub scalar : scalar c ≡ true
  pub read : Read (λ cs. P (c ∷ cs)) rest

abbrev pub Rested : State → List (List ℕ) → Mode → Option Partial → List ℕ → Type 0
Rested s names (modes.Failed f) c bs = ⊥
Rested s names (modes.EndName less matched) c bs = EndRead s.rooted names (drop matched (encodes (Rattle.xmi_text.specs.Writing.named (automaton.innermost s.elements)))) bs
Rested s names m None bs = Read (After s names m) bs
Rested s names m (Some p) bs = CutRead (After s names m) p.low p.rest bs

-- the open elements of a state, the innermost first, and that its names are characters
abbrev pub all_scalars : List (List ℕ) → Bool
all_scalars [] = true
all_scalars (name ∷ names) = scalars name && all_scalars names

abbrev pub Has : State → List (List ℕ) → Type 0
Has s names = (s.elements ≡ stacked names) × (all_scalars names ≡ true) × (scalars s.tag ≡ true)

-- the bytes behind a state
abbrev pub Later : State → List ℕ → Type 0
Later t bs = (names : List (List ℕ)) → Has t names → Rested t names t.mode t.partial bs

-- from what stands behind a byte to what stands before it
pub record Back (goal : Type 0) (bs : List ℕ) (x : State) : Type 0 where
  pub back : Later (cleared x) bs → goal

pub either : {goal : Type 0} {bs : List ℕ} {x y : State} (b : Bool) → (b ≡ true → Back goal bs x) → (b ≡ false → Back goal bs y) → Back goal bs (cond b x y)
either true f g = f refl
either false f g = g refl

pub failed : (goal : Type 0) (bs : List ℕ) (s : State) (m : Mode) (names : List (List ℕ)) (k : TextKind) (at : ℕ) → Has s names → Back goal bs (fail (in_mode s m) k at)
failed goal bs s m names k at e = record { back = λ l. absurd (l names e) }

-- one ASCII byte
pub low : (P Q : List ℕ → Type 0) (b : ℕ) (bs : List ℕ) → b < 128 → ((cs : List ℕ) → P cs → Q (b ∷ cs)) → Read P bs → Read Q (b ∷ bs)
low P Q b bs h f r = record { cs = b ∷ r.cs; spelt = spelt_low b bs r.cs h r.spelt; are = f r.cs r.are }

-- a place whose bytes are read as characters
abbrev pub IsRead : Mode → Type 0
IsRead (modes.Failed f) = ⊥
IsRead (modes.EndName less matched) = ⊥
IsRead _ = Unit {0}

pub same_after : (s t : State) (names : List (List ℕ)) (n : Mode) (bs : List ℕ) → IsRead n → Rested (record s { mode = n; partial = None; ready = ready.Nothing; returned = false }) names n None bs → Read (After s names n) bs
same_after s t names (modes.Failed f) bs i r = absurd i
same_after s t names (modes.EndName less matched) bs i r = absurd i
same_after s t names _ bs i r = r

-- on in another mode
pub gone : (s : State) (m n : Mode) (names : List (List ℕ)) (b : ℕ) (bs : List ℕ) → b < 128 → Has s names → IsRead n → ((cs : List ℕ) → After s names n cs → After s names m (b ∷ cs)) → Back (Read (After s names m) (b ∷ bs)) bs (go (in_mode s m) n)
gone s m n names b bs h e i f = record { back = λ l. low (After s names n) (After s names m) b bs h f (same_after s s names n bs i (l names e)) }

-- a byte that is known
pub put : (Q : List ℕ → Type 0) (b k : ℕ) (cs : List ℕ) → (b == k) ≡ true → Q (k ∷ cs) → Q (b ∷ cs)
put Q b k cs e q = subst (λ (x : ℕ). Q (x ∷ cs)) (sym (eqb-true b k e)) q

pub right_of : (x y : Bool) → x ≡ false → (x || y) ≡ true → y ≡ true
right_of true y e f = absurd (true≢false e)
right_of false y e f = f

pub storable_low : (b : ℕ) → b < 128 → bytes.is_storable_byte b ≡ true → is_storable_character b ≡ true
storable_low b h e =
    elim (cases_Bool ((b == 9) || (b == 10) || (b == 13))) [
      | inl c ↦ or_left ((b == 9) || (b == 10) || (b == 13)) _ c
      | inr c ↦
          let w : within 32 127 b ≡ true = right_of ((b == 9) || (b == 10) || (b == 13)) (within 32 127 b) c e in
          let r = within_range 32 127 b w in
          or_right ((b == 9) || (b == 10) || (b == 13)) _
          (and_from (nat_le 32 b && not (b == 0xfffe)) _ (and_from (nat_le 32 b) _ (le-leb 32 b r.0) (not_from_false _ (ne_eqb b 0xfffe (λ z. omega arith)))) (not_from_false _ (ne_eqb b 0xffff (λ z. omega arith))))
    ]

pub content_low : (b : ℕ) → is_storable_character b ≡ true → (b == 60) ≡ false → (b == 38) ≡ false → markup.is_content_character b ≡ true
content_low b s l a = and_from (is_storable_character b) _ s (and_from (not (b == 60)) (not (b == 38)) (not_from_false _ l) (not_from_false _ a))

same_run : (s : State) (run : List ℕ) (names : List (List ℕ)) (n : Mode) (bs : List ℕ) (returned : Bool) → IsRead n → Rested (record s { mode = n; partial = None; ready = ready.Nothing; run = s.run ++ run; returned = returned }) names n None bs → Read (After s names n) bs
same_run s run names (modes.Failed f) bs returned i r = absurd i
same_run s run names (modes.EndName less matched) bs returned i r = absurd i
same_run s run names _ bs returned i r = r

-- a state that a run grew in, or a value
pub grown : (s : State) (m n : Mode) (run : List ℕ) (returned : Bool) (names : List (List ℕ)) (b : ℕ) (bs : List ℕ) → b < 128 → Has s names → IsRead n → ((cs : List ℕ) → After s names n cs → After s names m (b ∷ cs)) → Back (Read (After s names m) (b ∷ bs)) bs (states.add (in_mode s m) n run returned)
grown s m n run returned names b bs h e i f = record { back = λ l. low (After s names n) (After s names m) b bs h f (same_run s run names n bs returned i (l names e)) }

-- a reference, and content
pub referred : (rooted : Bool) (all : List (List ℕ)) (name : List ℕ) (names : List (List ℕ)) (cs : List ℕ) → all ≡ name ∷ names → Referring (Content rooted all) ref.Begun cs → Content rooted all (38 ∷ cs)
referred rooted all name names cs e k =
    let f = k.finishes in
    let p : markup.Piece = markup.Referred f.0 in
    let joined : piece_text p ++ k.rest ≡ 38 ∷ cs = ap (λ xs. xs ++ k.rest) f.1 ∙ ap (λ xs. 38 ∷ xs) (sym k.is) in
    subst (Content rooted all) joined (with_piece rooted all p k.rest (subst (λ (ns : List (List ℕ)). Fit rooted ns p) (sym e) (f.2, tt)) refl k.behind)

-- what stands around
pub outside_back : (s : State) (m : Mode) (at b : ℕ) (bs : List ℕ) → b < 128 → Has s [] → ((cs : List ℕ) → Content s.rooted [] cs → After s [] m cs) → Back (Read (After s [] m) (b ∷ bs)) bs (steps.outside (in_mode s m) at b)
outside_back s m at b bs h e wrap =
    either (b == 60) (λ q. gone s m (modes.Less at) [] b bs h e tt (λ cs k. wrap (b ∷ cs) (put (Content s.rooted []) b 60 cs q k)))
    (λ _. either (bytes.is_blank b) (λ q. gone s m modes.Outside [] b bs h e tt (λ cs k. wrap (b ∷ cs) (with_character s.rooted [] b cs q k)))
    (λ _. failed _ bs s m [] kinds.BadMark at e))

pub inside_back : (s : State) (name : List ℕ) (names : List (List ℕ)) (at b : ℕ) (bs : List ℕ) → b < 128 → Has s (name ∷ names) → Back (Read (After s (name ∷ names) modes.Inside) (b ∷ bs)) bs (steps.inside (in_mode s modes.Inside) at b)
inside_back s name names at b bs h e =
    let all : List (List ℕ) = name ∷ names in
    let C : List ℕ → Type 0 = Content s.rooted all in
    either (b == 60) (λ q. gone s modes.Inside (modes.Less at) all b bs h e tt (λ cs k. put C b 60 cs q k))
    (λ l. either (b == 38) (λ q. gone s modes.Inside (modes.Reference at places.Content ref.Begun) all b bs h e tt (λ cs k. put C b 38 cs q (referred s.rooted all name names cs refl k)))
    (λ a. either (b == 13) (λ q. grown s modes.Inside modes.Inside (10 ∷ []) true all b bs h e tt (λ cs k. with_character s.rooted all b cs (content_low b (storable_low b h (or_left _ _ (or_right _ _ q))) l a) k))
    (λ _. either ((b == 10) && s.returned) (λ q. gone s modes.Inside modes.Inside all b bs h e tt (λ cs k. with_character s.rooted all b cs (content_low b (storable_low b h (or_left _ _ (or_left _ _ (or_right (b == 9) (b == 10) (and_parts _ _ q).0)))) l a) k))
    (λ _. either (bytes.is_storable_byte b) (λ q. grown s modes.Inside modes.Inside (b ∷ []) false all b bs h e tt (λ cs k. with_character s.rooted all b cs (content_low b (storable_low b h q) l a) k))
    (λ _. failed _ bs s modes.Inside all kinds.BadMark at e)))))
