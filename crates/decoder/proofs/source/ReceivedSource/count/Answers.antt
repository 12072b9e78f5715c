use Rattle.decoder.proofs.source.ReceivedSource.count.Goals as goal

pub returns : goal.returns
returns c = c.have.ensures (λ slice. slice.now)
