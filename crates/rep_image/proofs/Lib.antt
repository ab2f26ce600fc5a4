pub mod Telling
pub mod Standing
pub mod WhatStands
pub mod Leaving
pub mod Settling
