use Rattle.sheet.proofs.LittleEndian.{read_into}
use Rattle.sheet.proofs.bytes.bytes_at.Goals as goal

pub returns : goal.returns
returns g c = record {
  value = read_into g.row.N _ _ _ _ c.tail-rest.ensures.rest c.min-count.ensures c.copy_from_slice.ensures.after;
}
