use Rattle.std.proofs.Common.{◌≡◌, ◌∙◌, List, ℕ, Ok, sym}
use Rattle.genealogy_picture.specs.{Draws, read_count, names}
use Rattle.genealogy_picture.proofs.DrawnInput.{holds_of_input, of_unread, read_into_nothing, was_read}
use Rattle.genealogy_picture.proofs.drawing.draw.Goals as goal

pub returns-in-Ok : goal.returns-in-Ok
returns-in-Ok g c =
    let was : read_count c.read_to_end.result ≡ Ok c.in-Ok._count = cc in
    let gave = was_read c.read_to_end.result c.in-Ok._count _ was c.read_to_end.ensures.bytes in
    let read = read_into_nothing _ _ _ c.deref.result.now c.new-bytes.ensures.items c.deref.ensures.value gave in
    let P : List ℕ → Type 0 = λ bytes. Draws c.args.format (names c.args.asked) bytes c.drawn.result in
    holds_of_input P _ c.deref.result.now c.drawn.ensures read

pub returns : goal.returns
returns g c = of_unread c.args.format (names c.args.asked) (g.R.Read.remaining c.args.reader.now) c.read_to_end.result c.in-Err.fault (sym c.read_count.ensures ∙ c.in-Err.is)
