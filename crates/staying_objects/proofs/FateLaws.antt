-- The fates of objects: what is known first, and what is found on the way up their containers.
use Rattle.std.proofs.Common.{◌≡◌, ℕ, ◌+◌, ◌-◌, ◌<◌, suc, List, [], ◌∷◌, Bool, true, false, cond, refl, sym, ap, ◌∙◌, subst, arith, length, set, inl, inr}
use Rattle.std.specs.Prelude.{◌&&◌, not, sum_by, None}
use Rattle.std.specs.List.{list_any}
use Rattle.std.proofs.lemmas.Bool.{cases_eq}
use Rattle.std.proofs.lemmas.List.{get_or-set_same, get_or-set_other, length-set}
use Rattle.std.proofs.lemmas.List.FromFn.{length-map-range_with_len, get_or-map-range_with_len}
use Rattle.std.proofs.lemmas.List.Sums.{sum_by-set}
use Rattle.mof_metamodel.specs.Tables.{table}
use Rattle.object_tables.specs.Kept.{Kept}
use Rattle.object_tables.specs.Models.{class_at, IsLive, IsTop, IsContainedIn, IsReferenceOf}
use Rattle.object_tables.proofs.ContainmentLemmas.{live-below}
use Rattle.qvtr_semantics.specs.Objects.{conforms_if}
use Rattle.repair_semantics.specs.Deletions.{is_unneeded, is_deleted_within}
use Rattle.template_match.specs.Marks.{is_marked}
use Rattle.staying_objects.specs.declared.fate.Fate.{Fate}
use Rattle.staying_objects.specs.declared.fate.Fate.TheVariants as fates
use Rattle.staying_objects.specs.declared.repair.Repair.{Repair}
use Rattle.staying_objects.specs.Fates.{target_of, classes_of, images_of, is_image, is_managed, is_deleted, first_fate, known_fate, is_going, IsOpen, IsFate, fate_at, AreFates}
use Rattle.template_match.proofs.MarkLaws.{is_marked-table}
use Rattle.staying_objects.proofs.DeletedLaws.{contained, topmost, unneeded_goes, image_stays, open_up, open_top, deleted_up}

module _ (r : Repair) where
  abbrev count : ℕ
  count = length (target_of r).objects

  abbrev unneeded : ℕ → Bool
  unneeded o = is_unneeded (target_of r) (classes_of r) (images_of r) o

  -- whether the object is deleted, as far as so many containers reach
  abbrev pub goes_within : ℕ → ℕ → Bool
  goes_within n o = is_deleted_within (target_of r) (classes_of r) (images_of r) n o

  -- ---- what is known first

  told_first : (o : ℕ) (i : Bool) → is_image r o ≡ i → (g : Bool) → is_managed r o ≡ g
      → IsFate r o (cond i fates.Stays (cond g fates.Goes fates.Open))
  told_first o true image g managed = image_stays (target_of r) (classes_of r) (images_of r) count o image
  told_first o false image true managed =
      unneeded_goes (target_of r) (classes_of r) (images_of r) count o (ap (λ b. b && not (is_image r o)) managed ∙ ap not image)
  told_first o false image false managed = record { managed = managed; image = image }

  -- the fates that are known first are true
  pub first_fates_are : (all : List Fate) → all ≡ table (first_fate r) count → AreFates r all
  first_fates_are all same = record {
    count = ap length same ∙ length-map-range_with_len (first_fate r) 0 count;
    each = λ o l.
        subst (IsFate r o) (sym (ap (λ fs. fate_at fs o) same ∙ get_or-map-range_with_len (first_fate r) 0 count o o fates.Open l (omega arith)))
        (told_first o (is_image r o) refl (is_managed r o) refl);
  }

  -- ---- how code comes to it

  pub image_marked : (marks : List Bool) (o : ℕ) → marks ≡ table (is_image r) count → o < count → is_image r o ≡ is_marked marks o
  image_marked marks o same l = sym (ap (λ ms. is_marked ms o) same ∙ is_marked-table (is_image r) count o l)

  pub fate_of_image : (o : ℕ) → is_image r o ≡ true → fates.Stays ≡ first_fate r o
  fate_of_image o image = sym (ap (λ b. cond b fates.Stays (cond (is_managed r o) fates.Goes fates.Open)) image)

  pub fate_of_managed : (o : ℕ) → is_image r o ≡ false → is_managed r o ≡ true → fates.Goes ≡ first_fate r o
  fate_of_managed o image managed =
      sym (ap (λ b. cond b fates.Stays (cond (is_managed r o) fates.Goes fates.Open)) image ∙ ap (λ b. cond b fates.Goes fates.Open) managed)

  pub fate_of_other : (o : ℕ) → is_image r o ≡ false → is_managed r o ≡ false → fates.Open ≡ first_fate r o
  fate_of_other o image managed =
      sym (ap (λ b. cond b fates.Stays (cond (is_managed r o) fates.Goes fates.Open)) image ∙ ap (λ b. cond b fates.Goes fates.Open) managed)

  -- an object that isn't live is of no class
  pub gone_unmanaged : (o : ℕ) → class_at (target_of r) o ≡ None → is_managed r o ≡ false
  gone_unmanaged o gone = ap (λ x. list_any (λ class. conforms_if (target_of r).meta class x) (classes_of r)) gone ∙ none (classes_of r)
    where
      none : (classes : List ℕ) → list_any (λ class. false) classes ≡ false
      none [] = refl
      none (class ∷ classes) = none classes

  -- ---- the way up

  open_unneeded : (o : ℕ) → IsOpen r o → unneeded o ≡ false
  open_unneeded o open_here = ap (λ b. b && not (is_image r o)) open_here.managed

  -- a live object has a place in the table
  pub has_fate : (old : List Fate) (o : ℕ) → AreFates r old → IsLive (target_of r) o → o < length old
  has_fate old o are live = let long = are.count in let below = live-below (target_of r) o live in omega (arith, long, below)

  -- and what stands there is so
  pub known_here : (old : List Fate) (o : ℕ) → AreFates r old → IsLive (target_of r) o → (fate : Fate) → fate ≡ fate_at old o → IsFate r o fate
  known_here old o are live fate same = subst (IsFate r o) (sym same) (are.each o (live-below (target_of r) o live))

  -- after so many steps a climb from the object has come to the other one
  pub record IsClimb (o at step : ℕ) : Type 0 where
    pub live : IsLive (target_of r) at
    pub same : is_deleted r o ≡ is_deleted r at
    pub left : is_deleted r o ≡ goes_within (count - step) at

  pub climb_begin : (o : ℕ) → IsLive (target_of r) o → IsClimb o o 0
  climb_begin o live = record { live = live; same = refl; left = (let e : count ≡ count - 0 = omega arith in ap (λ n. goes_within n o) e) }

  -- the container of an open object
  pub climb_step : (o at step a p : ℕ) → Kept (target_of r) → IsClimb o at step → step < count → IsOpen r at → IsContainedIn (target_of r) at a p
      → IsReferenceOf (target_of r) a p → IsLive (target_of r) a
      → IsClimb o a (step + 1)
  climb_step o at step a p kept climb below open_here held reference live =
      let container = contained (target_of r) kept at a p held reference live in
      record {
        live = live;
        same =
            climb.same ∙ deleted_up (target_of r) (classes_of r) (images_of r) kept at a climb.live live
            (open_unneeded at open_here) open_here.image container;
        left =
            let e : count - step ≡ suc (count - (step + 1)) = omega arith in
            climb.left ∙ ap (λ n. goes_within n at) e
            ∙ open_up (target_of r) (classes_of r) (images_of r) (count - (step + 1)) at a (open_unneeded at open_here) open_here.image container;
      }

  pub open_top_stays : (o : ℕ) → IsOpen r o → IsTop (target_of r) o → is_deleted r o ≡ false
  open_top_stays o open_here top =
      open_top (target_of r) (classes_of r) (images_of r) count o (open_unneeded o open_here) open_here.image (topmost (target_of r) o top)

  -- after as many steps as there are objects nothing is left to look at
  pub climb_end : (o at step : ℕ) (fate : Fate) → IsClimb o at step → step ≡ count → IsFate r at fate → is_going fate ≡ is_deleted r o
  climb_end o at step fates.Open climb all is =
      let e : count - step ≡ 0 = omega arith in
      sym (climb.left ∙ ap (λ n. goes_within n at) e ∙ open_unneeded at is)
  climb_end o at step fates.Stays climb all is = sym (climb.same ∙ is)
  climb_end o at step fates.Goes climb all is = sym (climb.same ∙ is)

  -- ---- what is put down

  known_fate_is : (o : ℕ) (goes : Bool) → goes ≡ is_deleted r o → IsFate r o (known_fate goes)
  known_fate_is o true same = sym same
  known_fate_is o false same = sym same

  known_set : (old : List Fate) (o : ℕ) (goes : Bool) → AreFates r old → o < length old → goes ≡ is_deleted r o
      → AreFates r (set old o (known_fate goes))
  known_set old o goes are inside same =
      record {
        count = length-set old o (known_fate goes) ∙ are.count;
        each = λ x l. elim (cases_eq x o) [
          | inl e ↦ (
              let here : fate_at (set old o (known_fate goes)) x ≡ known_fate goes =
              ap (λ y. fate_at (set old o (known_fate goes)) y) e ∙ get_or-set_same old o (known_fate goes) fates.Open inside in
              let is : IsFate r x (known_fate goes) = known_fate_is x goes (same ∙ ap (is_deleted r) (sym e)) in
              subst (IsFate r x) (sym here) is)
          | inr ne ↦ subst (IsFate r x) (sym (get_or-set_other old o x (known_fate goes) fates.Open ne)) (are.each x l)
        ];
      }

  pub fates_set : (old : List Fate) (o : ℕ) (goes : Bool) (fate : Fate) → AreFates r old → IsLive (target_of r) o → goes ≡ is_deleted r o
      → fate ≡ known_fate goes → AreFates r (set old o fate)
  fates_set old o goes fate are live same put =
      subst (λ f. AreFates r (set old o f)) (sym put) (known_set old o goes are (has_fate old o are live) same)

  -- an object and its container go or stay together, where its fate is open
  pub goes_up : (o a p : ℕ) (goes : Bool) → Kept (target_of r) → IsLive (target_of r) o → IsOpen r o → IsContainedIn (target_of r) o a p
      → IsReferenceOf (target_of r) a p → IsLive (target_of r) a
      → goes ≡ is_deleted r o → goes ≡ is_deleted r a
  goes_up o a p goes kept live open_here held reference live' same =
      same ∙ deleted_up (target_of r) (classes_of r) (images_of r) kept o a live live' (open_unneeded o open_here) open_here.image
      (contained (target_of r) kept o a p held reference live')

-- ---- how many fates are open

-- 1 for a fate that is open
abbrev pub weight : Fate → ℕ
weight fates.Open = 1
weight fates.Stays = 0
weight fates.Goes = 0

known_weight : (goes : Bool) → weight (known_fate goes) ≡ 0
known_weight true = refl
known_weight false = refl

pub fewer_open : (old : List Fate) (o : ℕ) (goes : Bool) (fate : Fate) → o < length old → fates.Open ≡ fate_at old o → fate ≡ known_fate goes
    → sum_by weight (set old o fate) < sum_by weight old
fewer_open old o goes fate l is put =
    let sums = sum_by-set weight old o fate fates.Open l in
    let was : weight (fate_at old o) ≡ 1 = ap weight (sym is) in
    let now : weight fate ≡ 0 = ap weight put ∙ known_weight goes in
    omega (arith, sums, was, now)
