use Rattle.desk_file.proofs.NewPage.{front_and_zeros}
use Rattle.desk_file.proofs.new_file.first_page.Goals as goal

pub returns : goal.returns
returns c = rw c.copy_from_slice.ensures.after front_and_zeros
