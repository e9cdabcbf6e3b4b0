use Rattle.std.proofs.Common.{◌∙◌, ap}
use Rattle.std.specs.Prelude.{Result, Ok, Err, OnErr}
use Rattle.object_tables.proofs.ModelLemmas.{live_from_class, seen}
use Rattle.object_tables.proofs.EditLemmas.{pair_of, pair-near, pair-far, pair-apart, pair-linked, pair-tied_link, pair-seen_link}
use Rattle.object_tables.proofs.KeptEdits.{kept_linked}
use Rattle.object_tables.proofs.WholeLemmas.{kept_after}
use Rattle.object_tables.proofs.model.Model.link.Goals as goal

on_err_of : {T E : Type 0} (r : Result T E) (P : Type 0) → P → OnErr r P
on_err_of (Ok x) P p = tt
on_err_of (Err e) P p = p

pub join-requires-clause-first_place : goal.join-requires-clause-first_place
join-requires-clause-first_place c =
    pair-near _ _ _ _ _ _ _ (pair_of _ _ _ _ _ _ _ _ _ _ c.self.invariant.tied c.self.view_is c.requires.reference (live_from_class c.args.self.now c.args.b.0 c.requires.partner.class c.requires.partner.class_is) c.ends-near.ensures.near c.ends-near.ensures.far)

pub join-requires-clause-second_place : goal.join-requires-clause-second_place
join-requires-clause-second_place c =
    pair-far _ _ _ _ _ _ _ (pair_of _ _ _ _ _ _ _ _ _ _ c.self.invariant.tied c.self.view_is c.requires.reference (live_from_class c.args.self.now c.args.b.0 c.requires.partner.class c.requires.partner.class_is) c.ends-near.ensures.near c.ends-near.ensures.far)

pub join-requires-clause-apart : goal.join-requires-clause-apart
join-requires-clause-apart c =
    pair-apart _ _ _ _ _ _ _ c.self.invariant.tied.well (pair_of _ _ _ _ _ _ _ _ _ _ c.self.invariant.tied c.self.view_is c.requires.reference (live_from_class c.args.self.now c.args.b.0 c.requires.partner.class c.requires.partner.class_is) c.ends-near.ensures.near c.ends-near.ensures.far)

pub join-requires-clause-unjoined : goal.join-requires-clause-unjoined
join-requires-clause-unjoined c = λ h. c.requires.new
    (pair-linked _ _ _ _ _ _ _ _ c.self.view_is (pair_of _ _ _ _ _ _ _ _ _ _ c.self.invariant.tied c.self.view_is c.requires.reference (live_from_class c.args.self.now c.args.b.0 c.requires.partner.class c.requires.partner.class_is) c.ends-near.ensures.near c.ends-near.ensures.far) h)

pub invariant_of-self-2 : goal.invariant_of-self-2
invariant_of-self-2 c =
    let pair = pair_of _ _ _ _ _ _ _ _ _ _ c.self.invariant.tied c.self.view_is c.requires.reference (live_from_class c.args.self.now c.args.b.0 c.requires.partner.class c.requires.partner.class_is) c.ends-near.ensures.near c.ends-near.ensures.far in
    record {
      tied = pair-tied_link _ _ _ _ _ _ _ _ _ _ c.self.invariant.tied pair c.in_ok-join.ensures.ok;
      few = c.self.invariant.few;
      kept = kept_after _ _ _ _ _ _ _ c.self.invariant c.self.view_is
          (pair-seen_link _ _ _ _ _ _ _ _ _ _ _ c.self.invariant.tied c.self.view_is pair c.in_ok-join.ensures.ok)
          (λ k. kept_linked _ _ _ _ k c.requires.reference c.requires.partner c.requires.new c.requires.free);
    }

pub returns-clause-ok : goal.returns-clause-ok
returns-clause-ok c =
    pair-seen_link _ _ _ _ _ _ _ _ _ _ _ c.self.invariant.tied c.self.view_is
    (pair_of _ _ _ _ _ _ _ _ _ _ c.self.invariant.tied c.self.view_is c.requires.reference (live_from_class c.args.self.now c.args.b.0 c.requires.partner.class c.requires.partner.class_is) c.ends-near.ensures.near c.ends-near.ensures.far)
    c.in_ok-join.ensures.ok

pub invariant_of-self : goal.invariant_of-self
invariant_of-self c = rw c.in_err-join.ensures.err c.self.invariant

pub join-requires-clause-first_object : goal.join-requires-clause-first_object
join-requires-clause-first_object c = (pair_of _ _ _ _ _ _ _ _ _ _ c.self.invariant.tied c.self.view_is c.requires.reference (live_from_class c.args.self.now c.args.b.0 c.requires.partner.class c.requires.partner.class_is) c.ends-near.ensures.near c.ends-near.ensures.far).a_placed.object

pub join-requires-clause-second_object : goal.join-requires-clause-second_object
join-requires-clause-second_object c = (pair_of _ _ _ _ _ _ _ _ _ _ c.self.invariant.tied c.self.view_is c.requires.reference (live_from_class c.args.self.now c.args.b.0 c.requires.partner.class c.requires.partner.class_is) c.ends-near.ensures.near c.ends-near.ensures.far).b_placed.object

pub returns-clause-err : goal.returns-clause-err
returns-clause-err c = tt

pub returns-in_err-join-clause-err : goal.returns-in_err-join-clause-err
returns-in_err-join-clause-err c = on_err_of c.from_residual.result _ (ap (seen c.self.inside.meta.now) c.in_err-join.ensures.err ∙ c.self.view_is)
