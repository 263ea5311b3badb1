use Rattle.std.proofs.Common.{◌≡◌, ◌∙◌, Option, Some, sym, ap, subst}
use Rattle.std.proofs.lemmas.Bool.{false≢true}
use Rattle.std.proofs.lemmas.Result.{IfOk-weaker}
use Rattle.std.proofs.lemmas.Option.{IfSome_then, same_Some, none-some}
use Rattle.std.specs.Prelude.{IfSome}
use Rattle.arch_model.specs.declared.parts.ArchParts.{ArchParts}
use Rattle.hamr_cli.specs.declared.thin.model.ThinModel.{ThinModel}
use Rattle.hamr_cli.specs.Instance.{instance_of}
use Rattle.hamr_cli.specs.Model.{HasThinShape, IsThinModel}
use Rattle.hamr_cli.specs.Package.{IsThinPackage, model_of}
use Rattle.hamr_cli.proofs.PackageTrees.{tree-of, of-tree}
use Rattle.hamr_cli.proofs.package.read_package.Goals as goal

pub returns-in_default-clause-only : goal.returns-in_default-clause-only
returns-in_default-clause-only c = λ arch of.
    absurd (none-some of.model (sym c.in_default.is ∙ c.in_ok-model.ensures ∙ of-tree c.args.tree.now of.model of.tree))

pub returns-then-not-branch-clause-only : goal.returns-then-not-branch-clause-only
returns-then-not-branch-clause-only c = λ arch of.
    let model = c.in-Some.model in
    let same : model ≡ of.model = same_Some model of.model (sym c.in-Some.is ∙ c.in_ok-model.ensures ∙ of-tree c.args.tree.now of.model of.tree) in
    absurd (false≢true (sym c.if-not-branch.true ∙ c.in_ok-has_thin_shape.ensures.1 (subst HasThinShape (sym same) of.thin.shape)))

pub returns-clause-found : goal.returns-clause-found
returns-clause-found c =
    let model = c.in-Some.model in
    let said : model_of c.args.tree.now ≡ Some model = sym c.in_ok-model.ensures ∙ c.in-Some.is in
    IfOk-weaker c.instance_of.result
    (λ (found : Option ArchParts). IfSome found (λ arch. IsThinModel model × (arch ≡ instance_of model)))
    (λ (found : Option ArchParts). IfSome found (λ arch. IsThinPackage c.args.tree.now arch))
    (λ found made. IfSome_then found made (λ arch is. record { model = model; tree = tree-of c.args.tree.now model said; thin = is.0; instance = is.1 }))
    c.instance_of.ensures.found

pub returns-clause-only : goal.returns-clause-only
returns-clause-only c = λ arch of.
    let model = c.in-Some.model in
    let same : model ≡ of.model = same_Some model of.model (sym c.in-Some.is ∙ c.in_ok-model.ensures ∙ of-tree c.args.tree.now of.model of.tree) in
    let thin : IsThinModel model = subst IsThinModel (sym same) of.thin in
    IfOk-weaker c.instance_of.result
    (λ (found : Option ArchParts). found ≡ Some (instance_of model))
    (λ (found : Option ArchParts). found ≡ Some arch)
    (λ found is. is ∙ ap (λ (m : ThinModel). Some (instance_of m)) same ∙ ap (λ (parts : ArchParts). Some parts) (sym of.instance))
    (c.instance_of.ensures.only thin)
