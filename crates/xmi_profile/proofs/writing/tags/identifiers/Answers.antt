use Rattle.xmi_profile.proofs.WritingForms.{spaced_step, first_live, rest_live}
use Rattle.xmi_profile.proofs.writing.tags.identifiers.Goals as goal

pub id_of-requires-in-Some : goal.id_of-requires-in-Some
id_of-requires-in-Some c = first_live c.args.model.now c.loop-b.left c.in-Some.b c.next.new.self c.in-Some.ensures.steps c.loop-b.invariant.live

pub loop-b-preserved : goal.loop-b-preserved
loop-b-preserved c = record {
  live = rest_live c.args.model.now c.loop-b.left c.in-Some.b c.next.new.self c.in-Some.ensures.steps c.loop-b.invariant.live;
  text = spaced_step c.args.model.now c.loop-b.text c.push.new.self c.push_str.new.self _ c.loop-b.left c.next.new.self c.in-Some.b _ c.in-Some.ensures.steps c.id_of-in-Some.ensures c.in_ok-push.ensures.ok
      c.in_ok-push_str.ensures.ok c.loop-b.invariant.text;
}
