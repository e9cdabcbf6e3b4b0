-- One more key has its place.
use Rattle.std.specs.Prelude.{◌≡◌, ◌<◌, ◌+◌, ◌++◌, ◌∷◌, [], ℕ, List, take, length}
use Rattle.std.proofs.Common.{arith, get_or, sym, ap, subst, ◌∙◌}
use Rattle.std.proofs.lemmas.List.{take_more, length-take-le}
use Rattle.qv_syntax.specs.declared.program.Program.{Program}
use Rattle.qv_syntax.specs.declared.program.Key.{Key}
use Rattle.repair_semantics.specs.TargetItems.{target_meta_number}
use Rattle.entry_texts.specs.Naming.{PutsKey, ArePlaces}
use Rattle.entry_texts.proofs.KeyLaws.{places_more}
use Rattle.entry_texts.proofs.key_places.key_places.Goals as goal

pub loop-place-preserved : goal.loop-place-preserved
loop-place-preserved c =
    let program : Program = c.args.program.now in
    let keys : List Key = program.keys in
    let k : ℕ = c.loop-place.place in
    let key : Key = c.key-item.result in
    let below : k < length keys = omega (arith, ap length c.as_slice-key-items.ensures) in
    let is : key ≡ get_or keys k key = c.key-item.is ∙ ap (λ xs. get_or xs k key) c.as_slice-key-items.ensures in
    let more : take (k + 1) keys ≡ take k keys ++ key ∷ [] = take_more keys k key below ∙ ap (λ x. take k keys ++ x ∷ []) (sym is) in
    let count : k ≡ length (take k keys) = sym (length-take-le k keys (omega (arith, below))) in
    let put : PutsKey (target_meta_number program) key (length (take k keys)) c.loop-place.places c.put_key.new.places =
    subst (λ n. PutsKey (target_meta_number program) key n c.loop-place.places c.put_key.new.places) count
    (subst (λ m. PutsKey m key k c.loop-place.places c.put_key.new.places) c.target_number-number.ensures c.in_ok-put_key.ensures) in
    subst (λ ks. ArePlaces program ks c.put_key.new.places) (sym more) (places_more program (take k keys) key c.loop-place.places c.put_key.new.places c.loop-place.invariant put)
