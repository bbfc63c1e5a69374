use Rattle.std.proofs.Common.{◌<◌, length, refl}
use Rattle.text.specs.Field.{fields}
use Rattle.text.proofs.ReaderStarts.{starts_field}
use Rattle.unsolicited.proofs.ugnsinf.Fields.field.Goals as goal

pub returns : goal.returns
returns c =
    let found = c.args.self.now.found in
    let z : c.args.n < length (fields 44 c.args.self.now.rest.now) = rw found.count c.requires in
    starts_field _ _ found.starts c.args.n c.requires z _ _ refl c.part.ensures.bytes
