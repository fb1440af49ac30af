-- `write_crc` meets its contract: one write, of the CRC of the first 62 bytes, up to the end. Assumes nothing.
use Rattle.image.proofs.Writes.{crc_law}
use Rattle.image.proofs.write_crc.Goals as goal

pub returns : goal.returns
returns c =
    rw (← c.crc-crc.ensures) (crc_law c.args.out.now _ _ c.told-out c.put16.ensures)
