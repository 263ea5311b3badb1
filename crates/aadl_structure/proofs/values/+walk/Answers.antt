use Rattle.std.proofs.Common.{◌≡◌, ◌++◌, List, ap, sym, subst, ◌∙◌}
use Rattle.std.specs.Result.{OnOk}
use Rattle.std.specs.List.{flat_map}
use Rattle.aadl_structure.specs.declared.mention.Mention.{Mention}
use Rattle.aadl_structure.specs.Mentions.{value_mentions, field_mentions}
use Rattle.aadl_structure.proofs.ValueMentions.{mentions-List, mentions-Record}
use Rattle.aadl_structure.proofs.values.+walk.Goals as goal

pub push_value-returns-in-List : goal.push_value-returns-in-List
push_value-returns-in-List t c =
    let around = c.args.around in
    let asked = c.args.asked in
    subst (λ (ms : List Mention). OnOk c.push_values.result (c.push_values.new.mentions ≡ c.args.mentions.now ++ ms))
    (ap (flat_map (value_mentions around asked)) c.rows.ensures ∙ sym (ap (value_mentions around asked) c.in-List.is ∙ mentions-List around asked c.in-List.values))
    c.push_values.ensures

pub push_value-returns-in-Record : goal.push_value-returns-in-Record
push_value-returns-in-Record t c =
    let around = c.args.around in
    let asked = c.args.asked in
    subst (λ (ms : List Mention). OnOk c.push_fields.result (c.push_fields.new.mentions ≡ c.args.mentions.now ++ ms))
    (ap (flat_map (field_mentions around asked)) c.rows-in-Record.ensures
    ∙ sym (ap (value_mentions around asked) c.in-Record.is ∙ mentions-Record around asked c.in-Record.fields))
    c.push_fields.ensures
