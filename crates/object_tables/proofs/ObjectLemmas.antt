-- What a change of a row's place does to the objects.
use Rattle.std.proofs.Common.{◌≡◌, ℕ, ◌<◌, zero, suc, List, [], ◌∷◌, map, drop, refl, ap, ◌∙◌, arith, Option, Some, None}
use Rattle.object_tables.specs.Lists.{update_at}
use Rattle.object_tables.specs.Rows.{Place, Row, with_place}
use Rattle.object_tables.specs.Objects.{Slot, slot_of, object_of, object_from, with_slots, with_slot}
use Rattle.object_tables.specs.declared.tables.Named.{Named}
use Rattle.object_tables.proofs.ListLemmas.{map-update_at, update_at_id}

slots-update : (ps : List Place) (k : ℕ) (f : Place → Place) (g : Slot → Slot) → ((p : Place) → slot_of (f p) ≡ g (slot_of p))
    → map slot_of (drop 2 (update_at ps (suc (suc k)) f)) ≡ update_at (map slot_of (drop 2 ps)) k g
slots-update [] k f g h = refl
slots-update (x ∷ []) k f g h = refl
slots-update (x ∷ y ∷ zs) k f g h = map-update_at slot_of zs k f g h

slots-nameless : (ps : List Place) (k : ℕ) (f : Place → Place) → k < 2 → drop 2 (update_at ps k f) ≡ drop 2 ps
slots-nameless [] k f l = refl
slots-nameless (x ∷ []) zero f l = refl
slots-nameless (x ∷ []) (suc k) f l = refl
slots-nameless (x ∷ y ∷ zs) zero f l = refl
slots-nameless (x ∷ y ∷ zs) (suc zero) f l = refl
slots-nameless (x ∷ y ∷ zs) (suc (suc k)) f l = absurd (omega arith)

from-update : (named : Option Named) (ps : List Place) (k : ℕ) (f : Place → Place) (g : Slot → Slot) → ((p : Place) → slot_of (f p) ≡ g (slot_of p))
    → object_from named (update_at ps (suc (suc k)) f) ≡ with_slots (λ slots. update_at slots k g) (object_from named ps)
from-update None ps k f g h = refl
from-update (Some n) ps k f g h = ap (λ ss. Some (record { class = n.class; id = n.id; slots = ss })) (slots-update ps k f g h)

from-nameless : (named : Option Named) (ps : List Place) (k : ℕ) (f : Place → Place) → k < 2 → object_from named (update_at ps k f) ≡ object_from named ps
from-nameless None ps k f l = refl
from-nameless (Some n) ps k f l = ap (λ qs. Some (record { class = n.class; id = n.id; slots = map slot_of qs })) (slots-nameless ps k f l)

-- a change of a named place is the change of a slot
pub objects-with_place : (rows : List Row) (o k : ℕ) (f : Place → Place) (g : Slot → Slot) → ((p : Place) → slot_of (f p) ≡ g (slot_of p))
    → map object_of (with_place rows o (suc (suc k)) f) ≡ with_slot (map object_of rows) o k g
objects-with_place rows o k f g h =
    map-update_at object_of rows o (λ r. record r { places = update_at r.places (suc (suc k)) f }) (with_slots (λ slots. update_at slots k g)) (λ r. from-update r.named r.places k f g h)

pub map_same_at : {X Y : Type 0} (m : X → Y) (xs : List X) (n : ℕ) (f : X → X) → ((x : X) → m (f x) ≡ m x) → map m (update_at xs n f) ≡ map m xs
map_same_at m xs n f h = map-update_at m xs n f (λ y. y) h ∙ update_at_id (map m xs) n (λ y. y) (λ y. refl)

-- a change of a nameless place changes no object
pub objects-nameless : (rows : List Row) (o k : ℕ) (f : Place → Place) → k < 2
    → map object_of (with_place rows o k f) ≡ map object_of rows
objects-nameless rows o k f l = map_same_at object_of rows o (λ r. record r { places = update_at r.places k f }) (λ r. from-nameless r.named r.places k f l)
