use Rattle.std.proofs.Common.{◌≡◌, ◌∙◌, ap, refl, ◌++◌, append_assoc, List, [], ◌∷◌, ℕ, codes}
use Rattle.std.specs.List.{flat_map}
use Rattle.gumbo_parse.specs.declared.mark.Mark.TheVariants as mark
use Rattle.gumbo_parse.specs.declared.token.Token.TheVariants as token
use Rattle.gumbo_parse.specs.Classes.{behind_colons}
use Rattle.gumbo_parse.specs.ContractTokens.{step_tokens}
use Rattle.gumbo_parse.proofs.Allowing.{each_more, each_whole, each_text, more, one, name_allowed}
use Rattle.gumbo_parse.proofs.print_class.print_path.Goals as goal

pub loop-name-preserved : goal.loop-name-preserved
loop-name-preserved c =
    let ns = c.args.names.now in
    let i = c.loop-name.name-index in
    let n = c.name-item.result in
    let whole : List ℕ = c.args.out.now ++ flat_map behind_colons ns in
    let after : c.word-in-loop-name.new.self ≡ c.loop-name.out ++ behind_colons n =
    c.in_ok-word-2.ensures.ok ∙ ap (λ (t : List ℕ). c.word.new.self ++ t) c.rows.ensures.bytes ∙ ap (λ (o : List ℕ). o ++ n) c.in_ok-word.ensures.ok ∙
    append_assoc c.loop-name.out (codes "::") n in
    record {
      text = each_text behind_colons ns i n c.loop-name.out c.word-in-loop-name.new.self whole c.loop-name-test.true c.name-item.is after c.loop-name.invariant.text;
      allowed = each_more step_tokens ns i n c.loop-name-test.true c.name-item.is c.loop-name.invariant.allowed
          (more (token.Mark mark.DoubleColon) (token.Name n ∷ []) refl (one (token.Name n) (name_allowed n c.rows.ensures.identifier c.rows.ensures.lower)));
    }

pub returns-clause-allowed : goal.returns-clause-allowed
returns-clause-allowed c = each_whole step_tokens c.args.names.now c.loop-name.name-index c.loop-name-test.false c.loop-name.invariant.allowed
