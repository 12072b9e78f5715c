-- A certificate of an object that comes from a reader.
use Rattle.partition.specs.Fti.{Fti}
use Rattle.streams.specs.Changes.{ReaderChange, WriterChange}
use Rattle.reception.specs.declared.scope.Identity.{Identity}
use Rattle.encoder.specs.declared.certifying_from.CertifyFromFault.{CertifyFromFault}
use Rattle.encoder.specs.declared.certifying_from.CertifyFromFault.TheVariants.{Object, Write, NoMemory}
use Rattle.encoder.specs.CertifiedFrom.{BeginsText, IsCertifyFromFault}
use Rattle.encoder.specs.RowsWritten.{IsRowsFault}

pub rows_fault : (e : CertifyFromFault) (f : Fti) (who : Identity) (r : ReaderChange) (w : WriterChange)
    → IsRowsFault e f r.before r.sound r.failed w.failed → BeginsText f who r.before w.before w.after → IsCertifyFromFault e f who r w
rows_fault (Object e) f who r w fault begun = (fault, begun)
rows_fault Write f who r w fault begun = (begun, fault)
rows_fault NoMemory f who r w fault begun = absurd fault
