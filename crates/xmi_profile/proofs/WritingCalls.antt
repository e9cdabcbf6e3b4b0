-- Calls of a writer one after another: which may come, and how many elements they leave open.
use Rattle.std.proofs.Common.{◌≡◌, ℕ, suc, ◌<◌, Bool, true, false, cond, List, [], ◌∷◌, ◌++◌, length, refl, sym, ◌∙◌, ap, ap₂, subst, arith, None, Some, ◌⊎◌, inl, inr, length-append}
use Rattle.std.specs.Prelude.{◌≢◌, ◌==◌, ◌||◌, not, nat_lt, nat_eq, Contains, AllPairs}
use Rattle.std.specs.List.{flat_map}
use Rattle.std.specs.Cmp.Lexicographic.{pointwise, bytes_decides}
use Rattle.std.proofs.lemmas.Bool.{lt-ltb}
use Rattle.std.proofs.lemmas.Grind.{common_steps}
use Rattle.std.proofs.lemmas.List.Folds.{list_any-append}
use Rattle.mof_metamodel.specs.Characters.{is_storable_text}
use Rattle.xmi_text.specs.declared.limits.TheConstants.{MAX_XMI_NESTING}
use Rattle.xmi_text.specs.Names.{is_name}
use Rattle.xmi_text.specs.Writing.{Written, has, is_new, is_inside, may_open, may_attr, opened, with_attr, with_data, more_names, tag_end, is_tag, escaped}
use Rattle.xmi_text.specs.Calls.{Call, Open, Attr, Data, Close, Line, after_call, wrote}
use Rattle.xmi_profile.specs.Writable.{CanWrite}
use Rattle.mof_metamodel.proofs.Facts.{contains_first}
use Rattle.model_assembly.proofs.assembling.ListLaws.{contains_tail}

-- ---- one list of calls behind another

pub wrote_both : (w : Written) (a b : List Call) → wrote w (a ++ b) ≡ wrote (wrote w a) b
wrote_both w [] b = refl
wrote_both w (c ∷ a) b = wrote_both (after_call w c) a b

pub can_first : (w : Written) (a b : List Call) → CanWrite w (a ++ b) → CanWrite w a
can_first w [] b k = tt
can_first w (c ∷ a) b k = (k.0, can_first (after_call w c) a b k.1)

pub can_rest : (w : Written) (a b : List Call) → CanWrite w (a ++ b) → CanWrite (wrote w a) b
can_rest w [] b k = k
can_rest w (c ∷ a) b k = can_rest (after_call w c) a b k.1

pub can_both : (w : Written) (a b : List Call) → CanWrite w a → CanWrite (wrote w a) b → CanWrite w (a ++ b)
can_both w [] b k j = j
can_both w (c ∷ a) b k j = (k.0, can_both (after_call w c) a b k.1 j)

-- ---- calls that leave as many elements open as there were

-- calls that may come where so many elements are open, and leave as many
pub record Fits (d : ℕ) (calls : List Call) : Type 0 where
  pub can : (w : Written) → length w.elements ≡ d → CanWrite w calls
  pub open_still : (w : Written) → length w.elements ≡ d → length (wrote w calls).elements ≡ d

pub fits_none : (d : ℕ) → Fits d []
fits_none d = record { can = λ w e. tt; open_still = λ w e. e }

pub fits_both : (d : ℕ) (a b : List Call) → Fits d a → Fits d b → Fits d (a ++ b)
fits_both d a b f g = record {
  can = λ w e. can_both w a b (f.can w e) (g.can (wrote w a) (f.open_still w e));
  open_still = λ w e. ap (λ v. length v.elements) (wrote_both w a b) ∙ g.open_still (wrote w a) (f.open_still w e);
}

pub fits_each : {X : Type 0} (d : ℕ) (f : X → List Call) (xs : List X) → ((x : X) → Contains xs x → Fits d (f x)) → Fits d (flat_map f xs)
fits_each d f [] h = fits_none d
fits_each d f (x ∷ xs) h =
    fits_both d (f x) (flat_map f xs) (h x (contains_first x xs)) (fits_each d f xs (λ y c. h y (contains_tail x y xs c)))

pub fits_line : (d depth : ℕ) (calls : List Call) → Fits d calls → Fits d (Line depth ∷ calls)
fits_line d depth calls f = record { can = λ w e. (tt, f.can (after_call w (Line depth)) e); open_still = λ w e. f.open_still (after_call w (Line depth)) e }

-- ---- elements

pub inside_of : (w : Written) (d : ℕ) → length w.elements ≡ suc d → is_inside w ≡ true
inside_of w d e = lt-ltb 0 (length w.elements) (omega arith)

pub may_open_inside : (w : Written) (d : ℕ) → length w.elements ≡ suc d → suc d < MAX_XMI_NESTING → may_open w ≡ true
may_open_inside w d e l =
    let below : length w.elements < MAX_XMI_NESTING = omega arith in
    ap (λ b. cond b (nat_lt (length w.elements) MAX_XMI_NESTING) (not w.rooted)) (inside_of w d e) ∙ lt-ltb (length w.elements) MAX_XMI_NESTING below

-- calls that begin an element where so many are open
pub record Begins (d : ℕ) (calls : List Call) : Type 0 where
  pub can : (w : Written) → length w.elements ≡ d → CanWrite w calls
  pub one_more : (w : Written) → length w.elements ≡ d → length (wrote w calls).elements ≡ suc d

pub length-closed : (w : Written) (d : ℕ) → length w.elements ≡ suc d → length (after_call w Close).elements ≡ d
length-closed w d e = grind (arith, common_steps)

pub fits_close : (d : ℕ) (inner : List Call) → Fits (suc d) inner → (w : Written) → length w.elements ≡ suc d → CanWrite w (inner ++ Close ∷ []) × (length (wrote w (inner ++ Close ∷ [])).elements ≡ d)
fits_close d inner f w e =
    let still : length (wrote w inner).elements ≡ suc d = f.open_still w e in (
      can_both w inner (Close ∷ []) (f.can w e) (inside_of (wrote w inner) d still, tt),
      ap (λ v. length v.elements) (wrote_both w inner (Close ∷ [])) ∙ length-closed (wrote w inner) d still,
    )

pub fits_element : (d : ℕ) (tag inner : List Call) → Begins d tag → Fits (suc d) inner → Fits d (tag ++ (inner ++ Close ∷ []))
fits_element d tag inner b f = record {
  can = λ w e. can_both w tag (inner ++ Close ∷ []) (b.can w e) (fits_close d inner f (wrote w tag) (b.one_more w e)).0;
  open_still = λ w e. ap (λ v. length v.elements) (wrote_both w tag (inner ++ Close ∷ [])) ∙ (fits_close d inner f (wrote w tag) (b.one_more w e)).1;
}

pub length-opened : (w : Written) (name : List ℕ) (d : ℕ) → length w.elements ≡ d → length (opened w name).elements ≡ suc d
length-opened w name d e = omega (arith, length-append w.elements (name ∷ []), e)

either : (b : Bool) (x y : Written) (elements : List (List ℕ)) → x.elements ≡ elements → y.elements ≡ elements → (cond b x y).elements ≡ elements
either true x y elements p q = p
either false x y elements p q = q

pub data_rooted : (w : Written) (text : List ℕ) → w.rooted ≡ true → (with_data w text).rooted ≡ true
data_rooted w text e = by (length text == 0)
  where
    by : (b : Bool) → (cond b w (record { text = w.text ++ (tag_end (is_tag w.names) ++ escaped text); rooted = w.rooted; elements = w.elements; names = None })).rooted ≡ true
    by true = e
    by false = e

data_elements : (w : Written) (text : List ℕ) → (with_data w text).elements ≡ w.elements
data_elements w text = either (length text == 0) w (record { text = w.text ++ (tag_end (is_tag w.names) ++ escaped text); rooted = w.rooted; elements = w.elements; names = None }) w.elements refl refl

-- an element that holds a text
pub fits_text : (d : ℕ) (name text : List ℕ) → is_name name ≡ true → is_storable_text text ≡ true → suc d < MAX_XMI_NESTING → Fits (suc d) (Open name ∷ Data text ∷ Close ∷ [])
fits_text d name text n s l = record {
  can = λ w e.
      let two : length (opened w name).elements ≡ suc (suc d) = length-opened w name (suc d) e in
      let two_still : length (with_data (opened w name) text).elements ≡ suc (suc d) = ap length (data_elements (opened w name) text) ∙ two in
      ((n, may_open_inside w d e l), ((s, inside_of (opened w name) (suc d) two), (inside_of (with_data (opened w name) text) (suc d) two_still, tt)));
  open_still = λ w e.
      let two : length (opened w name).elements ≡ suc (suc d) = length-opened w name (suc d) e in
      let two_still : length (with_data (opened w name) text).elements ≡ suc (suc d) = ap length (data_elements (opened w name) text) ∙ two in
      length-closed (with_data (opened w name) text) (suc d) two_still;
}

-- ---- attributes of a tag

-- the calls of an attribute of this name, or none
abbrev pub IsAttr : List ℕ → List Call → Type 0
IsAttr name calls = (calls ≡ []) ⊎ ((value : List ℕ) × (calls ≡ Attr name value ∷ []) × (is_storable_text value ≡ true))

not_same : (a b : List ℕ) → a ≢ b → pointwise nat_eq a b ≡ false
not_same a b ne = by (pointwise nat_eq a b) refl
  where
    by : (t : Bool) → pointwise nat_eq a b ≡ t → t ≡ false
    by true e = absurd (ne ((bytes_decides a b).0 e))
    by false e = refl

not_had : (names : List (List ℕ)) (name other : List ℕ) → has names other ≡ false → name ≢ other → has (names ++ name ∷ []) other ≡ false
not_had names name other h ne = list_any-append (λ n. pointwise nat_eq n other) names (name ∷ []) ∙ ap₂ (λ a b. a || (b || false)) h (not_same name other ne)

head_apart : (name : ℕ → List ℕ) (p q : ℕ) (ps : List ℕ) → AllPairs (λ p q. name p ≢ name q) (p ∷ ps) → Contains ps q → name p ≢ name q
head_apart name p q ps once (k, l, e) = subst (λ (x : ℕ). name p ≢ name x) e (once 0 (suc k) q (omega arith) (omega arith))

-- attributes may come, and leave the elements that are open
pub record AreAttrs (w : Written) (calls : List Call) : Type 0 where
  pub can : CanWrite w calls
  pub elements : (wrote w calls).elements ≡ w.elements

pub attrs_come : (name : ℕ → List ℕ) (f : ℕ → List Call) (ps : List ℕ) (w : Written) (names : List (List ℕ)) → w.names ≡ Some names
    → ((p : ℕ) → Contains ps p → IsAttr (name p) (f p) × (is_name (name p) ≡ true) × (has names (name p) ≡ false))
    → AllPairs (λ p q. name p ≢ name q) ps → AreAttrs w (flat_map f ps)
attrs_come name f [] w names e h once = record { can = tt; elements = refl }
attrs_come name f (p ∷ ps) w names e h once =
    let here = h p (contains_first p ps) in
    let tail : AllPairs (λ p q. name p ≢ name q) ps = (λ i j d l lj. once (suc i) (suc j) d (omega arith) (omega arith)) in
    elim here.0 [
      | inl none ↦ subst (λ (calls : List Call). AreAttrs w (calls ++ flat_map f ps)) (sym none) (attrs_come name f ps w names e (λ q c. h q (contains_tail p q ps c)) tail)
      | inr one ↦ (
          let rest : AreAttrs (with_attr w (name p) one.0) (flat_map f ps) =
          attrs_come name f ps (with_attr w (name p) one.0) (names ++ name p ∷ []) (ap (λ ns. more_names ns (name p)) e)
          (λ q c. let there = h q (contains_tail p q ps c) in (there.0, there.1, not_had names (name p) (name q) there.2 (head_apart name p q ps once c)))
          tail
          in
          let fresh : may_attr w (name p) ≡ true = ap (λ ns. is_new ns (name p)) e ∙ ap not here.2 in
          subst (λ (calls : List Call). AreAttrs w (calls ++ flat_map f ps)) (sym one.1) (record { can = ((here.1, one.2, fresh), rest.can); elements = rest.elements })
          )
    ]
