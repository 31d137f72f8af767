use Rattle.std.proofs.Common.{ap, ◌∙◌, rules}
use Rattle.std.proofs.lemmas.List.Folds.{flat_map-map}
use Rattle.std.specs.List.{flat_map}
use Rattle.keyline.specs.Hex.{capitals, hex_of}
use Rattle.keyline.proofs.Calls.{map_same}
use Rattle.keyline.proofs.hex.hex16.Goals as goal

pub returns : goal.returns
unfolding hex_of
returns c =
    let pairs = map_same capitals 0 c.map.ensures.items c.told-bytes (λ p x y q call. search rules) in
    c.copy_from_slice.ensures.after ∙ c.as_flattened.ensures.value ∙ ap (flat_map (λ x. x)) pairs ∙ flat_map-map (λ x. x) capitals c.args.bytes.now
