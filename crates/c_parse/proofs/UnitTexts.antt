-- What has been read of the items of a unit is what has been read of the unit.
use Rattle.std.proofs.Common.{◌∙◌, refl, ap, List}
use Rattle.hw_text.specs.declared.place.Place.{Place}
use Rattle.hw_text.specs.Language.{Each}
use Rattle.hw_text.specs.Reading.{TheEnd, Reached, Stuck}
use Rattle.c_tree.specs.declared.dialect.Dialect.{Dialect}
use Rattle.c_tree.specs.declared.item.Item.{Item}
use Rattle.c_tree.specs.declared.unit.Unit.{Unit as CUnit}
use Rattle.c_parse.specs.Values.{Tokens}
use Rattle.c_parse.specs.UnitGrammar.{SpellsItem, SpellsUnit}

module _ (dialect : Dialect) (end : Place) (before after : Tokens) where
  unit_of : List Item → CUnit
  unit_of items = record { items = items; end = end }

  pub unit-read : (items : List Item) → Reached (Each (SpellsItem dialect)) TheEnd before after items → Reached (SpellsUnit dialect end) TheEnd before after (record { items = items; end = end })
  unfolding unit_of
  unit-read items so = record {
    taken = so.taken;
    split = so.split;
    spelled = (so.spelled, refl);
    only = λ u w m n text follows same ahead.
        let one = so.only u.items w m n text.0 follows same ahead in
        (ap (λ (p : Place). record { items = u.items; end = p }) text.1 ∙ ap unit_of one.0, one.1);
  }

  pub unit-stuck : Stuck (Each (SpellsItem dialect)) TheEnd before after → Stuck (SpellsUnit dialect end) TheEnd before after
  unfolding unit_of
  unit-stuck so = record {
    taken = so.taken;
    split = so.split;
    goes_on = (unit_of so.goes_on.0, so.goes_on.1, (so.goes_on.2, refl));
    none = λ u w m n text follows same ahead. so.none u.items w m n text.0 follows same ahead;
  }
