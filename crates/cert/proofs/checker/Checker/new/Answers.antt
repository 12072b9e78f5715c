use Rattle.std.proofs.Common.{◌≡◌, [], refl, rules, subst}
use Rattle.std.specs.Cow.{cow_slice_items}
use Rattle.partition.specs.Fti.{Fti}
use Rattle.cert.specs.Tallying.{AreTallied, by_certificate, tallied_of}
use Rattle.cert.specs.declared.verdict.Reason.TheVariants.{OtherCertificate, ObjectLength}
use Rattle.cert.proofs.Feeding.{not_begun}
use Rattle.cert.proofs.FromReader.{no_datagrams}
use Rattle.cert.proofs.checker.Checker.new.Goals as goal

pub returns-then-not-is_for-clause-no : goal.returns-then-not-is_for-clause-no
returns-then-not-is_for-clause-no c =
    not_begun c.args.identity (cow_slice_items c.args.object) c.args.certificate OtherCertificate (search rules)

pub returns-then-bytes-transfer_length-clause-no : goal.returns-then-bytes-transfer_length-clause-no
returns-then-bytes-transfer_length-clause-no c =
    not_begun c.args.identity (cow_slice_items c.args.object) c.args.certificate ObjectLength (search rules)

pub returns-in-Some-clause-no : goal.returns-in-Some-clause-no
returns-in-Some-clause-no c =
    not_begun c.args.identity (cow_slice_items c.args.object) c.args.certificate c.in-Some.reason (search rules)

pub returns-clause-fed : goal.returns-clause-fed
returns-clause-fed c =
    let z = c.first_not_given.new.symbols in
    let is : c.fti-fti.result ≡ c.first_not_given.new.symbols.fti = search rules in
    record {
      each = no_datagrams;
      stands = record {
        identity = search rules;
        certificate = search rules;
        object_is = search rules;
        walked =
            subst (λ (f : Fti). AreTallied (by_certificate c.first_not_given.new.symbols) f (tallied_of c.in_ok-tally.tally) []) is (c.in_ok-tally.ensures.none (by_certificate z));
      };
    }

pub invariant_of-result-clause-gives : goal.invariant_of-result-clause-gives
invariant_of-result-clause-gives c =
    rw c.first_not_given.ensures.certificate (rw c.as_slice.ensures.value at (c.first_not_given.ensures.none (rw c.in_default.is refl)))
