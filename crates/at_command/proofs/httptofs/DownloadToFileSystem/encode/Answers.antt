-- A refusal of its text, or the command, piece by piece.
use Rattle.std.proofs.lemmas.Result.{err_from_is_err_and}
use Rattle.at_command.specs.Request.{download_to_file_system}
use Rattle.at_command.proofs.Commands.{sends}
use Rattle.at_command.proofs.Pieces.{nothing, on}
use Rattle.at_command.proofs.Writing.{refuses}
use Rattle.at_command.proofs.httptofs.DownloadToFileSystem.encode.Goals as goal

pub returns-in_err-check_texts : goal.returns-in_err-check_texts
returns-in_err-check_texts c = let a = c.args in
    let p = err_from_is_err_and c.from_residual.result c.from_residual.ensures.1 in
    rw (p.1, p.2) (refuses (download_to_file_system a.url.now a.file_path.now) _ _ c.in_err-check_texts.ensures)

pub returns : goal.returns
returns c = let a = c.args in
    sends (download_to_file_system a.url.now a.file_path.now) _ _ _ _ tt c.in_ok-check_texts.ensures
    (on _ (on _ (on _ (on _ (on _ (nothing c.new-command.ensures) c.text.ensures) c.quoted.ensures) c.byte.ensures) c.quoted-2.ensures) c.byte-2.ensures)
    c.write_to.ensures
