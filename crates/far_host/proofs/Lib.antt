mod DigestLaws
mod LaneLaws
