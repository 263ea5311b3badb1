-- Chains of links, and sets that no link leads into from outside.
use Rattle.std.proofs.Common.{◌≡◌, ◌⊎◌, inl, inr, ℕ, Bool, true, false, ◌<◌, List, [], ◌∷◌, length, set, sym, ap, subst, ◌∙◌}
use Rattle.std.proofs.lemmas.Bool.{cases_eq}
use Rattle.std.proofs.lemmas.List.{get_or-set_same, get_or-set_other, length-set}
use Rattle.std.proofs.lemmas.List.Elements.{All-contains}
use Rattle.std.specs.List.{Contains}
use Rattle.arch_model.specs.declared.parts.ArchParts.{ArchParts}
use Rattle.arch_model.specs.declared.link.Link.{Link}
use Rattle.flow_paths.specs.Sources.{LeadsFrom, Lead, IsSource, has}
use Rattle.flow_paths.specs.Search.{LeadsIn, Feeds, StaysWithin, IsClosed, HasSources}

-- links lead into a closed set from members alone
pub stays : (arch : ArchParts) (members : List Bool) (pd : ℕ) → IsClosed arch members → has members pd ≡ true →
    (links : List Link) (source : ℕ) → Lead arch source links pd → has members source ≡ true
stays arch members pd closed itself [] source lead = rw lead itself
stays arch members pd closed itself (link ∷ links) source (next, leads, lead) =
    All-contains (StaysWithin arch members) arch.links link closed leads.is_link source next leads.sender leads.receiver
    (stays arch members pd closed itself links next lead)

-- what leads to a source is one
pub fed : (arch : ArchParts) (members : List Bool) (pd sender : ℕ) → Feeds arch members sender →
    ((source : ℕ) → has members source ≡ true → IsSource arch pd source) → IsSource arch pd sender
fed arch members pd sender feeds only =
    let receiver = only feeds.leads.receiver feeds.leads.is_member in
    record {
      links = feeds.link ∷ receiver.links;
      lead = (feeds.leads.receiver, record { is_link = feeds.is_link; sender = feeds.leads.from; receiver = feeds.leads.to }, receiver.lead);
    }

-- what is a member of a set with one more is that one, or a member before
pub member_before : (members after : List Bool) (sender pd : ℕ) → after ≡ set members sender true → (pd ≡ sender → ⊥) → has after pd ≡ has members pd
member_before members after sender pd is other = ap (λ (bs : List Bool). has bs pd) is ∙ get_or-set_other members sender pd true false other

-- the one that is added is a member
pub is_added : (members after : List Bool) (sender : ℕ) → sender < length members → after ≡ set members sender true → has after sender ≡ true
is_added members after sender within is = ap (λ (bs : List Bool). has bs sender) is ∙ get_or-set_same members sender true false within

member_stays : (members after : List Bool) (sender pd : ℕ) → sender < length members → after ≡ set members sender true → has members pd ≡ true → has after pd ≡ true
member_stays members after sender pd within is member =
    elim (cases_eq pd sender) [ inl same ↦ rw same (is_added members after sender within is) | inr other ↦ member_before members after sender pd is other ∙ member ]

still_source : (arch : ArchParts) (members after : List Bool) (pd sender : ℕ) → IsSource arch pd sender → after ≡ set members sender true →
    ((source : ℕ) → has members source ≡ true → IsSource arch pd source) → (source : ℕ) → has after source ≡ true → IsSource arch pd source
still_source arch members after pd sender new is only source member =
    elim (cases_eq source sender) [ inl same ↦ subst (IsSource arch pd) (sym same) new | inr other ↦ only source (sym (member_before members after sender source is other) ∙ member) ]

-- a set with one more source
pub added : (arch : ArchParts) (members after : List Bool) (pd sender : ℕ) → sender < length members → IsSource arch pd sender → after ≡ set members sender true →
    HasSources arch pd members → HasSources arch pd after
added arch members after pd sender within source is have = record {
  count = ap (λ (bs : List Bool). length bs) is ∙ length-set members sender true ∙ have.count;
  itself = member_stays members after sender pd within is have.itself;
  only = still_source arch members after pd sender source is have.only;
}
