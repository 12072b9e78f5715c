use Rattle.request.specs.Matching.{rows_in}
use Rattle.std.proofs.Common.{codes, refl, subst, sym}
use Rattle.request.specs.Requests.{TellsPlaces}
use Rattle.request.proofs.Getters.{other_name}
use Rattle.request.proofs.NamedLines.{asked_at, tells_at, told_as}
use Rattle.request.proofs.matched.named_line.Goals as goal
use Rattle.request.proofs.matched.named_line.Goals.{in-encode, in-certify, in-convert, in-check, in-drop+in_ok-drop_line-in-drop, in-salvage, in-join+in_ok-join_line-in-join, in-decode, in-follow, in-twin, in-show}

pub unreachable-requires : goal.unreachable-requires
unreachable-requires c =
    other_name c.args.name.now (rows_in c.args.matches.now) c.requires c.in_default.not-encode c.in_default.not-certify c.in_default.not-convert c.in_default.not-check
    c.in_default.not-drop c.in_default.not-salvage c.in_default.not-join c.in_default.not-decode c.in_default.not-follow c.in_default.not-twin c.in_default.not-show

pub encode_line-requires : goal.encode_line-requires
encode_line-requires c = told_as (rows_in c.args.matches.now) c.args.name.now (codes "encode") c.in-encode.is c.requires

pub certify_line-requires : goal.certify_line-requires
certify_line-requires c = told_as (rows_in c.args.matches.now) c.args.name.now (codes "certify") c.in-certify.is c.requires

pub convert_line-requires : goal.convert_line-requires
convert_line-requires c = told_as (rows_in c.args.matches.now) c.args.name.now (codes "convert") c.in-convert.is c.requires

pub check_line-requires : goal.check_line-requires
check_line-requires c = told_as (rows_in c.args.matches.now) c.args.name.now (codes "check") c.in-check.is c.requires

pub drop_line-requires : goal.drop_line-requires
drop_line-requires c = told_as (rows_in c.args.matches.now) c.args.name.now (codes "drop") c.in-drop.is c.requires

pub salvage_line-requires : goal.salvage_line-requires
salvage_line-requires c = told_as (rows_in c.args.matches.now) c.args.name.now (codes "salvage") c.in-salvage.is c.requires

pub join_line-requires : goal.join_line-requires
join_line-requires c = told_as (rows_in c.args.matches.now) c.args.name.now (codes "join") c.in-join.is c.requires

pub decode_line-requires : goal.decode_line-requires
decode_line-requires c = told_as (rows_in c.args.matches.now) c.args.name.now (codes "decode") c.in-decode.is c.requires

pub follow_line-requires : goal.follow_line-requires
follow_line-requires c = told_as (rows_in c.args.matches.now) c.args.name.now (codes "follow") c.in-follow.is c.requires

pub twin_line-requires : goal.twin_line-requires
twin_line-requires c = told_as (rows_in c.args.matches.now) c.args.name.now (codes "twin") c.in-twin.is c.requires

pub show_line-requires : goal.show_line-requires
show_line-requires c = told_as (rows_in c.args.matches.now) c.args.name.now (codes "show") c.in-show.is c.requires

pub returns-clause-asked : goal.returns-clause-asked
returns-clause-asked c = elim c.match-name.branch [
  | in-encode w ↦ asked_at (rows_in c.args.matches.now) c.args.name.now (codes "encode") c.match-name.result w.encode_line.result w.in-encode.is w.result-is w.encode_line.ensures
  | in-certify w ↦ asked_at (rows_in c.args.matches.now) c.args.name.now (codes "certify") c.match-name.result w.certify_line.result w.in-certify.is w.result-is w.certify_line.ensures
  | in-convert w ↦ asked_at (rows_in c.args.matches.now) c.args.name.now (codes "convert") c.match-name.result w.convert_line.result w.in-convert.is w.result-is w.convert_line.ensures
  | in-check w ↦ asked_at (rows_in c.args.matches.now) c.args.name.now (codes "check") c.match-name.result w.check_line.result w.in-check.is w.result-is w.check_line.ensures
  | in-drop+in_ok-drop_line-in-drop w ↦ asked_at (rows_in c.args.matches.now) c.args.name.now (codes "drop") c.match-name.result w.in_ok-drop_line-in-drop.field-0 w.in-drop.is w.result-is w.in_ok-drop_line-in-drop.ensures.asked
  | in-salvage w ↦ asked_at (rows_in c.args.matches.now) c.args.name.now (codes "salvage") c.match-name.result w.salvage_line.result w.in-salvage.is w.result-is w.salvage_line.ensures
  | in-join+in_ok-join_line-in-join w ↦ asked_at (rows_in c.args.matches.now) c.args.name.now (codes "join") c.match-name.result w.in_ok-join_line-in-join.field-0 w.in-join.is w.result-is w.in_ok-join_line-in-join.ensures
  | in-decode w ↦ asked_at (rows_in c.args.matches.now) c.args.name.now (codes "decode") c.match-name.result w.decode_line.result w.in-decode.is w.result-is w.decode_line.ensures
  | in-follow w ↦ asked_at (rows_in c.args.matches.now) c.args.name.now (codes "follow") c.match-name.result w.follow_line.result w.in-follow.is w.result-is w.follow_line.ensures
  | in-twin w ↦ asked_at (rows_in c.args.matches.now) c.args.name.now (codes "twin") c.match-name.result w.twin_line.result w.in-twin.is w.result-is w.twin_line.ensures
  | in-show w ↦ asked_at (rows_in c.args.matches.now) c.args.name.now (codes "show") c.match-name.result w.show_line.result w.in-show.is w.result-is w.show_line.ensures
]

pub returns-clause-places : goal.returns-clause-places
returns-clause-places c = elim c.match-name.branch [
  | in-encode w ↦ tells_at (rows_in c.args.matches.now) (codes "encode") c.match-name.result w.encode_line.result w.result-is w.encode_line.ensures refl
  | in-certify w ↦ tells_at (rows_in c.args.matches.now) (codes "certify") c.match-name.result w.certify_line.result w.result-is w.certify_line.ensures refl
  | in-convert w ↦ tells_at (rows_in c.args.matches.now) (codes "convert") c.match-name.result w.convert_line.result w.result-is w.convert_line.ensures refl
  | in-check w ↦ tells_at (rows_in c.args.matches.now) (codes "check") c.match-name.result w.check_line.result w.result-is w.check_line.ensures refl
  | in-drop+in_ok-drop_line-in-drop w ↦ subst (λ l. TellsPlaces l.request) (sym w.result-is) w.in_ok-drop_line-in-drop.ensures.places
  | in-salvage w ↦ tells_at (rows_in c.args.matches.now) (codes "salvage") c.match-name.result w.salvage_line.result w.result-is w.salvage_line.ensures refl
  | in-join+in_ok-join_line-in-join w ↦ tells_at (rows_in c.args.matches.now) (codes "join") c.match-name.result w.in_ok-join_line-in-join.field-0 w.result-is w.in_ok-join_line-in-join.ensures refl
  | in-decode w ↦ tells_at (rows_in c.args.matches.now) (codes "decode") c.match-name.result w.decode_line.result w.result-is w.decode_line.ensures refl
  | in-follow w ↦ tells_at (rows_in c.args.matches.now) (codes "follow") c.match-name.result w.follow_line.result w.result-is w.follow_line.ensures refl
  | in-twin w ↦ tells_at (rows_in c.args.matches.now) (codes "twin") c.match-name.result w.twin_line.result w.result-is w.twin_line.ensures refl
  | in-show w ↦ tells_at (rows_in c.args.matches.now) (codes "show") c.match-name.result w.show_line.result w.result-is w.show_line.ensures refl
]
