-- A place that stands there stays.
use Rattle.std.proofs.Common.{sym, ◌∙◌}
use Rattle.entry_texts.proofs.KeyLaws.{place_stays, place_put}
use Rattle.entry_texts.proofs.key_places.put_place.Goals as goal

pub returns-then-contains_key : goal.returns-then-contains_key
returns-then-contains_key c = place_stays c.args.places.now c.args.class c.args.place (sym c.contains_key.ensures ∙ c.if-contains_key.true)

pub returns : goal.returns
returns c = place_put c.args.places.now c.insert.new.self c.args.class c.args.place (sym c.contains_key.ensures ∙ c.if-contains_key.false) c.in_ok-insert.ensures.updates
