use Rattle.std.proofs.Common.{◌≡◌, ◌≢◌, ◌∙◌, ◌++◌, List, ℕ, ap, arith, map, subst, sym}
use Rattle.std.specs.Prelude.{All, AllPairs, Contains}
use Rattle.mof_metamodel.specs.declared.desc.PropId.{PropId}
use Rattle.object_tables.specs.declared.value.ObjId.{ObjId}
use Rattle.object_tables.specs.Rows.{joined_at}
use Rattle.object_tables.specs.Incoming.{IsIncoming, IsOfProperty, link_of}
use Rattle.object_tables.proofs.ModelLemmas.{live_class, placed_seen}
use Rattle.object_tables.proofs.WholeLemmas.{kept_seen}
use Rattle.object_tables.proofs.IncomingLemmas.{near_ends, all_of_property, only_incoming, all_incoming, once_incoming}
use Rattle.object_tables.proofs.model.Model.incoming.Goals as goal

pub joined-requires-clause-object : goal.joined-requires-clause-object
joined-requires-clause-object c =
    let (k, hk) = live_class c.args.self.now c.args.o.0 c.requires in
    (placed_seen _ _ _ _ _ _ _ c.self.invariant.tied c.self.view_is hk).object

pub joined-requires-clause-place : goal.joined-requires-clause-place
joined-requires-clause-place c =
    let (k, hk) = live_class c.args.self.now c.args.o.0 c.requires in
    let places = (placed_seen _ _ _ _ _ _ _ c.self.invariant.tied c.self.view_is hk).places in
    omega arith

pub joined-requires-2-clause-place : goal.joined-requires-2-clause-place
joined-requires-2-clause-place c =
    let (k, hk) = live_class c.args.self.now c.args.o.0 c.requires in
    let places = (placed_seen _ _ _ _ _ _ _ c.self.invariant.tied c.self.view_is hk).places in
    omega arith

pub new-requires : goal.new-requires
new-requires c =
    let ends : c.joined.result ++ c.joined-2.result ≡ near_ends c.self.inside.tables c.args.o.0 =
    ap (λ (l : List (ℕ × ℕ)). l ++ c.joined-2.result) c.joined.ensures ∙ ap (λ (l : List (ℕ × ℕ)). joined_at c.self.inside.tables c.args.o.0 0 ++ l) c.joined-2.ensures in
    subst (All (IsOfProperty c.self.inside.meta.now c.self.inside.tables)) (sym ends)
    (all_of_property _ _ _ _ c.args.o.0 _ c.self.invariant.tied c.look.ensures.both c.self.view_is (kept_seen _ _ _ _ _ c.self.invariant c.self.view_is) c.requires)

pub returns-clause-only : goal.returns-clause-only
returns-clause-only c =
    let ends : c.joined.result ++ c.joined-2.result ≡ near_ends c.self.inside.tables c.args.o.0 =
    ap (λ (l : List (ℕ × ℕ)). l ++ c.joined-2.result) c.joined.ensures ∙ ap (λ (l : List (ℕ × ℕ)). joined_at c.self.inside.tables c.args.o.0 0 ++ l) c.joined-2.ensures in
    let is : c.new.result ≡ map (link_of c.self.inside.meta.now c.self.inside.tables) (near_ends c.self.inside.tables c.args.o.0) =
    c.new.ensures ∙ ap (map (link_of c.self.inside.meta.now c.self.inside.tables)) ends in
    subst (All (λ (l : ObjId × PropId). IsIncoming c.args.self.now c.args.o.0 l.0.0 l.1.0)) (sym is)
    (only_incoming _ _ _ _ c.args.o.0 _ c.self.invariant.tied c.look.ensures.both c.self.view_is (kept_seen _ _ _ _ _ c.self.invariant c.self.view_is) c.requires)

pub returns-clause-all : goal.returns-clause-all
returns-clause-all c = λ a p h.
    let ends : c.joined.result ++ c.joined-2.result ≡ near_ends c.self.inside.tables c.args.o.0 =
    ap (λ (l : List (ℕ × ℕ)). l ++ c.joined-2.result) c.joined.ensures ∙ ap (λ (l : List (ℕ × ℕ)). joined_at c.self.inside.tables c.args.o.0 0 ++ l) c.joined-2.ensures in
    let is : c.new.result ≡ map (link_of c.self.inside.meta.now c.self.inside.tables) (near_ends c.self.inside.tables c.args.o.0) =
    c.new.ensures ∙ ap (map (link_of c.self.inside.meta.now c.self.inside.tables)) ends in
    subst (λ (l : List (ObjId × PropId)). Contains l (record { 0 = a }, record { 0 = p })) (sym is)
    (all_incoming _ _ _ _ c.args.o.0 _ c.self.invariant.tied c.look.ensures.both c.self.view_is a p h)

pub returns-clause-once : goal.returns-clause-once
returns-clause-once c =
    let ends : c.joined.result ++ c.joined-2.result ≡ near_ends c.self.inside.tables c.args.o.0 =
    ap (λ (l : List (ℕ × ℕ)). l ++ c.joined-2.result) c.joined.ensures ∙ ap (λ (l : List (ℕ × ℕ)). joined_at c.self.inside.tables c.args.o.0 0 ++ l) c.joined-2.ensures in
    let is : c.new.result ≡ map (link_of c.self.inside.meta.now c.self.inside.tables) (near_ends c.self.inside.tables c.args.o.0) =
    c.new.ensures ∙ ap (map (link_of c.self.inside.meta.now c.self.inside.tables)) ends in
    subst (AllPairs (λ k l. k ≢ l)) (sym is)
    (once_incoming _ _ _ _ c.args.o.0 _ c.self.invariant.tied c.look.ensures.both c.look.ensures.once c.self.view_is (kept_seen _ _ _ _ _ c.self.invariant c.self.view_is) c.requires)
