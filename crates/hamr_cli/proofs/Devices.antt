-- What makes a device thin.
use Rattle.std.proofs.Common.{◌≡◌, ◌≤◌, ◌↔◌, Bool, true, length, map, All}
use Rattle.std.proofs.lemmas.Result.{IfOk-weaker}
use Rattle.std.specs.Prelude.{IfOk, Result}
use Rattle.hamr_cli.specs.declared.thin.feature.Feature.{Feature}
use Rattle.hamr_cli.specs.declared.thin.device.Device.{Device}
use Rattle.hamr_cli.specs.Names.{Differ}
use Rattle.hamr_cli.specs.Model.{HasThinQueue, IsThinDevice}

-- a device that has all else is thin where the names of its features differ
pub thin-device : {E : Type 0} (r : Result Bool E) (d : Device) → d.end_name ≡ d.name → 1 ≤ length d.features → length d.features ≤ 32 → All HasThinQueue d.features → IfOk r (λ b. (b ≡ true) ↔ Differ (map (λ (f : Feature). f.name) d.features)) → IfOk r (λ b. (b ≡ true) ↔ IsThinDevice d)
thin-device r d own some few queues names =
    IfOk-weaker r (λ b. (b ≡ true) ↔ Differ (map (λ (f : Feature). f.name) d.features)) (λ b. (b ≡ true) ↔ IsThinDevice d)
    (λ b iff. (λ e. record { own_end = own; some_features = some; few_features = few; queue_sizes = queues; feature_names = iff.0 e }, λ thin. iff.1 thin.feature_names)) names
