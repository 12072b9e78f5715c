use Rattle.std.proofs.Common.{◌≡◌, List, ℕ, length}
use Rattle.certificate.specs.InFile.{certificate_in}
use Rattle.cert.specs.Tallying.{tallied_of}
use Rattle.file_check.specs.Compared.{AreCompared}
use Rattle.file_check.specs.Files.{WhereTold}
use Rattle.file_check.specs.Indexed.{IsIndexOf}
use Rattle.file_check.proofs.checking.compare_blocks.Given as goal

abbrev pub invariant-loop-block : goal.invariant-loop-block
invariant-loop-block g l = record {
  same : l.session.file.now ≡ l.files.session.now;
  compared : WhereTold (g.S.ReadAt.content l.files.session.now) (g.O.ReadAt.content l.files.object.now) (g.C.ReadAt.content l.files.certificate.file.now)
      (λ x o text. (ds : List (List ℕ)) → IsIndexOf x l.files.certificate.fti l.index ds → length o ≡ l.files.certificate.fti.transfer_length
      → AreCompared (certificate_in text l.files.certificate.fti l.files.certificate.name) o (tallied_of l.index.tally) ds l.block l.wrong);
}
