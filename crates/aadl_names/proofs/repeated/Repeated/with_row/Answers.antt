use Rattle.std.proofs.Common.{sym, ap, ◌∙◌}
use Rattle.std.specs.Option.{is_some}
use Rattle.hw_text.specs.declared.code.Code.TheVariants as code
use Rattle.hw_text.specs.declared.place.Place.{Place}
use Rattle.aadl_names.specs.Keys.{Key, place_of}
use Rattle.aadl_names.specs.Offences.{named, key_text}
use Rattle.aadl_names.proofs.Twice.{told_twice}
use Rattle.aadl_names.proofs.repeated.Repeated.with_row.Goals as goal

pub returns-clause-first : goal.returns-clause-first
returns-clause-first g c =
    let row_key = c.key-owner.ensures in
    c.earlier.ensures ∙ told_twice (is_some (place_of c.args.self.seen (g.R.Keyed.key_of c.args.row.now))) c.args.self.first c.named-twice.result
    (named code.ModelDuplicate (g.R.Keyed.place_of c.args.row.now) (key_text (g.R.Keyed.key_of c.args.row.now)))
    (ap (λ (k : Key). is_some (place_of c.args.self.seen k)) (sym row_key) ∙ (sym c.in_ok-seen.ensures.known ∙ c.if-not-is_known.false))
    (c.named-twice.ensures ∙ (ap (λ (at : Place). named code.ModelDuplicate at c.in_ok-text.field-0) c.place.ensures
    ∙ ap (named code.ModelDuplicate (g.R.Keyed.place_of c.args.row.now)) (c.in_ok-text.ensures c.key-owner.result.0 ∙ ap key_text row_key)))
