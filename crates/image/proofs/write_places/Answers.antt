-- `write_places` meets its contract: three writes behind the first 56 bytes. Assumes nothing.
use Rattle.image.proofs.Writes.{places_law}
use Rattle.image.proofs.write_places.Goals as goal

pub returns : goal.returns
returns c =
    rw (← c.place_of-place_c.ensures, ← c.place_of-place_a.ensures, ← c.place_of-place_n.ensures)
    (places_law c.args.out.now _ _ _ _ _ _ c.told-out c.put16.ensures c.put16-2.ensures c.put16-3.ensures)
